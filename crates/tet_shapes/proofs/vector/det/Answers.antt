use Rattle.std.proofs.Common.{◌≡◌, ◌^◌, ◌∙◌, [], ◌+ℤ◌, ◌*ℤ◌, w64, to_z, of_z}
use Rattle.exact_algebra.proofs.Size.{read, back}
use Rattle.exact_algebra.proofs.Ring.{ring, same}
use Rattle.sign_predicates.specs.Point.{Point}
use Rattle.sign_predicates.specs.Orientation.{dot, cross, det}
use Rattle.sign_predicates.proofs.Terms.{pointE, dotE, crossE, detE, of_point}
use Rattle.sign_predicates.proofs.Vectors.{wide_back}
use mir.Syntax.{w128}
use Rattle.tet_shapes.proofs.vector.det.Goals as goal

along_first : (u v w : Point) → dot (cross v w) u ≡ det u v w
unfolding same det
along_first u v w =
    let U = pointE 0 in
    let V = pointE 3 in
    let W = pointE 6 in
    ring (dotE (crossE V W) U) (detE U V W) tt (of_point u (of_point v (of_point w [])))

pub returns-clause-value : goal.returns-clause-value
returns-clause-value c =
    let n = c.n.inside in
    let u = c.u.inside in
    let g = c.n.invariant in
    let h = c.u.invariant in
    let nx : to_z w64 (of_z w64 n.x) ≡ n.x = back w64 (2 ^ 61) n.x tt g.x_small in
    let ny : to_z w64 (of_z w64 n.y) ≡ n.y = back w64 (2 ^ 61) n.y tt g.y_small in
    let nz : to_z w64 (of_z w64 n.z) ≡ n.z = back w64 (2 ^ 61) n.z tt g.z_small in
    let ux = wide_back u.x h.x_small in
    let uy = wide_back u.y h.y_small in
    let uz = wide_back u.z h.z_small in
    read w128 c.sum_of_products.result c.sum_of_products.type_inv ∙ c.sum_of_products.ensures.value
    ∙ (λ t. nx t *ℤ ux t +ℤ ny t *ℤ uy t +ℤ nz t *ℤ uz t)
    ∙ (λ t. dot ((c.n.view_is ∙ c.cross-n.ensures) t) (c.u.view_is t))
    ∙ along_first c.args.u c.args.v c.args.w
