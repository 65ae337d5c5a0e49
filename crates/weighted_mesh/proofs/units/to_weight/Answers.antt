use Rattle.std.proofs.Common.{◌≡◌, ◌*◌, ◌^◌, ◌≤◌, sym, ap, ◌∙◌, refl, arith, Some, None, unsigned_abs, w64}
use Rattle.std.specs.Option.{option_map}
use Rattle.exact_algebra.proofs.Size.{back}
use Rattle.tet_text.specs.Decimals.{Scaled, signed}
use Rattle.grid_coords.specs.Units.{is_negative, units, if_at_most}
use Rattle.grid_coords.proofs.Coordinates.{sign_back}
use Rattle.weighted_mesh.specs.Weights.{weight_units, weight_limit}
use Rattle.weighted_mesh.proofs.units.to_weight.Goals as goal

pub returns-in-Some-clause-value : goal.returns-in-Some-clause-value
unfolding weight_units
returns-in-Some-clause-value c =
    let g = c.args.grid.now in
    let r = c.rounded_twice-rounded.result in
    let is = rw c.from-decimals.ensures at c.units_within.ensures in
    let read : if_at_most weight_limit (units (2 * g.decimals) (2 * g.halvings) r) ≡ Some c.in-Some.size = sym is ∙ c.in-Some.is in
    let small : unsigned_abs c.rounded.inside.value ≤ 10 ^ 36 = omega arith in
    let negative = sign_back c.rounded.inside.value r.value _ small (ap (λ (d : Scaled). d.value) c.rounded.view_is) refl in
    let size = c.signed.ensures.value ∙ ap (λ b. signed b c.in-Some.size) (sym negative) in
    ap Some (back w64 70368744177664 c.signed.result tt c.signed.ensures.small ∙ size) ∙ ap (option_map (signed (is_negative r))) (sym read)
    ∙ ap (λ (d : Scaled). option_map (signed (is_negative d)) (if_at_most weight_limit (units (2 * g.decimals) (2 * g.halvings) d))) c.rounded_twice-rounded.ensures

pub returns-in-None-clause-value : goal.returns-in-None-clause-value
unfolding weight_units
returns-in-None-clause-value c =
    let g = c.args.grid.now in
    let r = c.rounded_twice-rounded.result in
    let is = rw c.from-decimals.ensures at c.units_within.ensures in
    let read : if_at_most weight_limit (units (2 * g.decimals) (2 * g.halvings) r) ≡ None = sym is ∙ c.in-None.is in
    ap (option_map (signed (is_negative r))) (sym read)
    ∙ ap (λ (d : Scaled). option_map (signed (is_negative d)) (if_at_most weight_limit (units (2 * g.decimals) (2 * g.halvings) d))) c.rounded_twice-rounded.ensures
