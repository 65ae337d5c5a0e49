use Rattle.std.proofs.Common.{◌≡◌, ◌^◌, ◌≤◌, ◌∙◌, ◌+ℤ◌, ◌*ℤ◌, ℤ, w64, to_z, of_z, unsigned_abs}
use Rattle.exact_algebra.proofs.Size.{read, back}
use Rattle.sign_predicates.specs.Orientation.{dot}
use mir.Syntax.{w128}
use Rattle.tet_shapes.proofs.vector.dot.Goals as goal

normal_back : (z : ℤ) → unsigned_abs z ≤ 2 ^ 61 → to_z w64 (of_z w64 z) ≡ z
normal_back z h = back w64 (2 ^ 61) z tt h

pub returns-clause-value : goal.returns-clause-value
returns-clause-value c =
    let m = c.m.inside in
    let n = c.n.inside in
    let mx = normal_back m.x c.m.invariant.x_small in
    let my = normal_back m.y c.m.invariant.y_small in
    let mz = normal_back m.z c.m.invariant.z_small in
    let nx = normal_back n.x c.n.invariant.x_small in
    let ny = normal_back n.y c.n.invariant.y_small in
    let nz = normal_back n.z c.n.invariant.z_small in
    read w128 c.sum_of_long_products.result c.sum_of_long_products.type_inv ∙ c.sum_of_long_products.ensures.value
    ∙ (λ t. mx t *ℤ nx t +ℤ my t *ℤ ny t +ℤ mz t *ℤ nz t)
    ∙ (λ t. dot (c.m.view_is t) (c.n.view_is t))
