use Rattle.std.proofs.Common.{◌∙◌, w64}
use Rattle.exact_algebra.proofs.Size.{read}
use Rattle.sign_predicates.specs.Orientation.{cross}
use Rattle.sign_predicates.proofs.Vectors.{minor_back}
use Rattle.tet_shapes.proofs.vector.cross.Goals as goal

pub returns : goal.returns
returns c =
    let u = c.u.inside in
    let v = c.v.inside in
    let g = c.u.invariant in
    let h = c.v.invariant in
    (λ t. record {
      x = (read w64 c.det_of_two.result c.det_of_two.type_inv ∙ c.det_of_two.ensures.value ∙ minor_back u.y u.z v.y v.z g.y_small g.z_small h.y_small h.z_small) t;
      y = (read w64 c.det_of_two-2.result c.det_of_two-2.type_inv ∙ c.det_of_two-2.ensures.value ∙ minor_back u.z u.x v.z v.x g.z_small g.x_small h.z_small h.x_small) t;
      z = (read w64 c.det_of_two-3.result c.det_of_two-3.type_inv ∙ c.det_of_two-3.ensures.value ∙ minor_back u.x u.y v.x v.y g.x_small g.y_small h.x_small h.y_small) t;
    })
    ∙ (λ t. cross (c.u.view_is t) (c.v.view_is t))
