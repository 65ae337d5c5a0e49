use Rattle.std.proofs.Common.{ℕ, ◌-◌, ◌^◌, sym, ap, ◌∙◌, ◌≤◌, arith}
use Rattle.std.specs.Int.{w128}
use Rattle.std.specs.Prelude.{unsigned_abs}
use Rattle.exact_algebra.proofs.Size.{back}
use Rattle.tet_text.specs.Decimals.{Scaled}
use Rattle.grid_coords.proofs.Products.{units_none, units_some, tens_are}
use Rattle.grid_coords.proofs.units.units_within.Goals as goal

pub returns-in_err-tens : goal.returns-in_err-tens
returns-in_err-tens c =
    let small : unsigned_abs c.d.inside.value ≤ 10 ^ 36 = omega arith in
    let value = back w128 (10 ^ 36) c.d.inside.value tt small in
    let e = tens_are c.args.most c.args.decimals c.unsigned_abs.result c.saturating_sub-steps.result c.args.d.now
    (c.unsigned_abs.ensures.value ∙ ap unsigned_abs value ∙ ap (λ (d : Scaled). unsigned_abs d.value) c.d.view_is)
    (c.saturating_sub-steps.ensures ∙ ap (λ (s : ℕ). c.args.decimals - s) (c.from.ensures ∙ ap (λ (d : Scaled). d.scale) c.d.view_is)) in
    rw c.from_residual.ensures (sym (units_none c.args.most c.args.decimals c.args.halvings c.args.d.now (sym e ∙ sym c.raised.ensures ∙ c.in_err-tens.was)))

pub returns : goal.returns
returns c =
    let small : unsigned_abs c.d.inside.value ≤ 10 ^ 36 = omega arith in
    let value = back w128 (10 ^ 36) c.d.inside.value tt small in
    let e = tens_are c.args.most c.args.decimals c.unsigned_abs.result c.saturating_sub-steps.result c.args.d.now
    (c.unsigned_abs.ensures.value ∙ ap unsigned_abs value ∙ ap (λ (d : Scaled). unsigned_abs d.value) c.d.view_is)
    (c.saturating_sub-steps.ensures ∙ ap (λ (s : ℕ). c.args.decimals - s) (c.from.ensures ∙ ap (λ (d : Scaled). d.scale) c.d.view_is)) in
    c.doubled.ensures ∙ sym (units_some c.args.most c.args.decimals c.args.halvings c.in_ok-tens.tens c.args.d.now (sym e ∙ sym c.raised.ensures ∙ c.in_ok-tens.was))
