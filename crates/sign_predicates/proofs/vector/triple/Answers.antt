use Rattle.std.proofs.Common.{◌∙◌, ◌≡◌, ◌^◌, ◌+ℤ◌, ◌-ℤ◌, ◌*ℤ◌, w64, to_z, of_z}
use Rattle.exact_algebra.proofs.Size.{read, back}
use Rattle.sign_predicates.specs.Orientation.{dot, cross}
use Rattle.sign_predicates.proofs.Vectors.{wide_back}
use mir.Syntax.{w128}
use Rattle.sign_predicates.proofs.vector.triple.Goals as goal

pub returns : goal.returns
returns c =
    let a = c.args in
    let n = c.n.inside in
    let u = c.u.inside in
    let g = c.n.invariant in
    let h = c.u.invariant in
    let nx : to_z w64 (of_z w64 n.x) ≡ n.x = back w64 (2 ^ 61) n.x tt g.x_small in
    let ny : to_z w64 (of_z w64 n.y) ≡ n.y = back w64 (2 ^ 61) n.y tt g.y_small in
    let nz : to_z w64 (of_z w64 n.z) ≡ n.z = back w64 (2 ^ 61) n.z tt g.z_small in
    let ux = wide_back u.x h.x_small in
    let uy = wide_back u.y h.y_small in
    let uz = wide_back u.z h.z_small in
    let x : to_z w64 (of_z w64 a.x) ≡ a.x = back w64 (2 ^ 32) a.x tt c.requires.x_small in
    let y : to_z w64 (of_z w64 a.y) ≡ a.y = back w64 (2 ^ 32) a.y tt c.requires.y_small in
    let z : to_z w64 (of_z w64 a.z) ≡ a.z = back w64 (2 ^ 32) a.z tt c.requires.z_small in
    read w128 c.triple_of.result c.triple_of.type_inv ∙ c.triple_of.ensures
    ∙ (λ t. nx t *ℤ (uy t *ℤ z t -ℤ uz t *ℤ y t) +ℤ ny t *ℤ (uz t *ℤ x t -ℤ ux t *ℤ z t) +ℤ nz t *ℤ (ux t *ℤ y t -ℤ uy t *ℤ x t))
    ∙ (λ t. dot (c.n.view_is t) (cross (c.u.view_is t) (record { x = a.x; y = a.y; z = a.z })))
