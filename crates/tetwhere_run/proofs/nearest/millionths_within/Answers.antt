use Rattle.std.proofs.Common.{◌≡◌, ℕ, ◌+◌, ◌^◌, ◌≤◌, ◌<◌, unsigned_abs, sym, ap, ◌∙◌, arith}
use Rattle.std.specs.Int.{w128}
use Rattle.exact_algebra.proofs.Size.{back}
use Rattle.tet_text.specs.Decimals.{Scaled}
use Rattle.grid_coords.specs.Units.{if_at_most, units}
use Rattle.tetwhere_run.proofs.Millionths.{whole_millionths, further_millionths}
use Rattle.tetwhere_run.proofs.nearest.millionths_within.Goals as goal

pub returns-then-scale-decimals : goal.returns-then-scale-decimals
returns-then-scale-decimals c =
    let scale = ap (λ (d : Scaled). d.scale) c.d.view_is in
    let few : c.args.d.now.scale ≤ c.args.grid.now.decimals + 6 = let e = c.from-decimals.ensures in let f = c.from-scale.ensures in let le = c.if-scale-decimals.true in omega arith in
    c.units_within.ensures ∙ ap (λ (k : ℕ). if_at_most 536870912000000 (units (k + 6) c.args.grid.now.halvings c.args.d.now)) c.from-decimals.ensures
    ∙ ap (if_at_most 536870912000000) (sym (whole_millionths c.args.grid.now c.args.d.now few))

pub returns : goal.returns
returns c =
    let g = c.args.grid.now in
    let small : unsigned_abs c.d.inside.value ≤ 10 ^ 36 = omega arith in
    let value = back w128 (10 ^ 36) c.d.inside.value tt small in
    let size : c.unsigned_abs.result ≡ unsigned_abs c.args.d.now.value = c.unsigned_abs.ensures.value ∙ ap unsigned_abs value ∙ ap (λ (d : Scaled). unsigned_abs d.value) c.d.view_is in
    let scale : c.from-scale.result ≡ c.args.d.now.scale = c.from-scale.ensures ∙ ap (λ (d : Scaled). d.scale) c.d.view_is in
    let more : g.decimals + 6 < c.args.d.now.scale = let e = c.from-decimals.ensures in let lt = c.if-scale-decimals.false in omega arith in
    rw (size, scale, c.from-decimals.ensures) at c.nearest_within.ensures
    ∙ ap (if_at_most 536870912000000) (sym (further_millionths g c.args.d.now more))
