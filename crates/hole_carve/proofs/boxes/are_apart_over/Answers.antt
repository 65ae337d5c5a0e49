use Rattle.std.proofs.Common.{◌*ℤ◌, ◌∙◌, w64, to_z-of_z}
use Rattle.exact_algebra.proofs.Size.{read}
use Rattle.hole_carve.proofs.Apart.{apart_same}
use Rattle.hole_carve.proofs.boxes.are_apart_over.Goals as goal

pub returns : goal.returns
returns c h =
    let w = to_z-of_z c.ranges.w in
    apart_same _ _ _ _ _ _ _ _ _ _
    (read w64 c.scaled.result c.scaled.type_inv ∙ c.scaled.ensures ∙ (λ t. to_z-of_z c.ranges.a t *ℤ w t))
    (read w64 c.scaled-2.result c.scaled-2.type_inv ∙ c.scaled-2.ensures ∙ (λ t. to_z-of_z c.ranges.b t *ℤ w t))
    (read w64 c.scaled-3.result c.scaled-3.type_inv ∙ c.scaled-3.ensures ∙ (λ t. to_z-of_z c.ranges.c t *ℤ w t))
    (read w64 c.scaled-4.result c.scaled-4.type_inv ∙ c.scaled-4.ensures ∙ (λ t. to_z-of_z c.ranges.d t *ℤ w t))
    (to_z-of_z c.ranges.x) (c.are_apart.ensures h)
