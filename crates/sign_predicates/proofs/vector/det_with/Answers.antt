use Rattle.std.proofs.Common.{◌≡◌, ◌^◌, w64, to_z, of_z, ◌∙◌}
use Rattle.exact_algebra.proofs.Size.{read, back}
use Rattle.sign_predicates.specs.Point.{Point}
use Rattle.sign_predicates.specs.Orientation.{det}
use Rattle.sign_predicates.proofs.Products.{det_along_last}
use Rattle.sign_predicates.proofs.Vectors.{det_of_two_back}
use mir.Syntax.{w128}
use Rattle.sign_predicates.proofs.vector.det_with.Goals as goal

pub returns : goal.returns
returns c =
    let a = c.args in
    let u = c.u.inside in
    let v = c.v.inside in
    let g = c.u.invariant in
    let h = c.v.invariant in
    let one = read w64 c.det_of_two.result c.det_of_two.type_inv ∙ c.det_of_two.ensures.value ∙ det_of_two_back u.y u.z v.y v.z g.y_small g.z_small h.y_small h.z_small in
    let two = read w64 c.det_of_two-2.result c.det_of_two-2.type_inv ∙ c.det_of_two-2.ensures.value ∙ det_of_two_back u.x u.z v.x v.z g.x_small g.z_small h.x_small h.z_small in
    let three = read w64 c.det_of_two-3.result c.det_of_two-3.type_inv ∙ c.det_of_two-3.ensures.value ∙ det_of_two_back u.x u.y v.x v.y g.x_small g.y_small h.x_small h.y_small in
    let x : to_z w64 (of_z w64 a.x) ≡ a.x = back w64 (2 ^ 50) a.x tt c.requires.x_small in
    let y : to_z w64 (of_z w64 a.y) ≡ a.y = back w64 (2 ^ 50) a.y tt c.requires.y_small in
    let z : to_z w64 (of_z w64 a.z) ≡ a.z = back w64 (2 ^ 50) a.z tt c.requires.z_small in
    let p : Point = record { x = u.x; y = u.y; z = u.z } in
    let q : Point = record { x = v.x; y = v.y; z = v.z } in
    let d = det_along_last p q a.x a.y a.z in
    let v : det p q (record { x = a.x; y = a.y; z = a.z }) ≡ det a.u a.v (record { x = a.x; y = a.y; z = a.z }) =
    λ t. det (c.u.view_is t) (c.v.view_is t) (record { x = a.x; y = a.y; z = a.z }) in
    read w128 c.sum_of_three.result c.sum_of_three.type_inv ∙ cc
