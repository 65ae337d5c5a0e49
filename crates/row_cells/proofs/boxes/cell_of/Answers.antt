use Rattle.std.proofs.Common.{ap, ◌∙◌, pos, ◌+ℤ◌, ◌*ℤ◌}
use Rattle.sign_predicates.specs.Point.{RationalPoint}
use Rattle.row_cells.specs.Boxes.{whole_units}
use Rattle.row_cells.proofs.Units.{kept_unit, kept_sum}
use Rattle.row_cells.proofs.boxes.cell_of.Goals as goal

pub returns-clause-value : goal.returns-clause-value
returns-clause-value c =
    let p = c.x.inside in
    let h = c.x.invariant in
    let unit = kept_unit p.w h.w_is in
    let sx = kept_sum p.x p.w h.w_is h.x_near in
    let sy = kept_sum p.y p.w h.w_is h.y_near in
    let sz = kept_sum p.z p.w h.w_is h.z_near in
    let a = c.along.ensures ∙ (λ i. whole_units (sx i) (unit i)) ∙ ap (λ (p : RationalPoint). whole_units (p.x +ℤ pos 536870912 *ℤ p.w) p.w) c.x.view_is in
    let b = c.along-2.ensures ∙ (λ i. whole_units (sy i) (unit i)) ∙ ap (λ (p : RationalPoint). whole_units (p.y +ℤ pos 536870912 *ℤ p.w) p.w) c.x.view_is in
    let e = c.along-3.ensures ∙ (λ i. whole_units (sz i) (unit i)) ∙ ap (λ (p : RationalPoint). whole_units (p.z +ℤ pos 536870912 *ℤ p.w) p.w) c.x.view_is in
    λ i. record { x = a i; y = b i; z = e i }
