use Rattle.std.proofs.Common.{◌≡◌, ℕ, ◌+◌, ◌≤◌, ◌^◌, ap, ◌∙◌, arith, true, false, unsigned_abs}
use Rattle.std.specs.Prelude.{min}
use Rattle.tet_text.specs.Decimals.{Scaled}
use Rattle.grid_coords.specs.Rounding.{rounded}
use Rattle.grid_coords.specs.Units.{units, capped}
use Rattle.grid_coords.proofs.Coordinates.{rounded_least, sign_back, size_above, size_below}
use Rattle.grid_coords.proofs.place.to_parts.Goals as goal

pub returns-then-rounded-lt0-clause-value : goal.returns-then-rounded-lt0-clause-value
returns-then-rounded-lt0-clause-value c =
    let small : unsigned_abs c.rounded.inside.value ≤ 10 ^ 36 = omega arith in
    let negative = sign_back c.rounded.inside.value c.round_to-rounded.result.value true small (ap (λ (d : Scaled). d.value) c.rounded.view_is) c.if-rounded-lt0.true in
    let d = c.args.d.now in
    let scale = ap (λ (s : Scaled). s.scale) c.d.view_is in
    let is : c.round_to-rounded.result ≡ rounded (c.args.grid.now.decimals + 6) c.args.d.now =
    c.round_to-rounded.ensures ∙ ap (λ (n : ℕ). rounded n d) (c.min.ensures ∙ ap (λ (n : ℕ). min n c.d.inside.scale) c.saturating_add.ensures ∙ ap (λ (n : ℕ). min (min (c.args.grid.now.decimals + 6) 4294967295) n) scale) ∙ rounded_least (c.args.grid.now.decimals + 6) 4294967295 d (omega arith) in
    let size = rw c.from.ensures at c.parts_of-size.ensures.value in
    rw (← is, negative) (size_below (capped (units (c.args.grid.now.decimals + 6) c.args.grid.now.halvings c.round_to-rounded.result)) c.parts_of-size.result size c.parts_of-size.ensures.size)

pub returns-else-rounded-lt0-clause-value : goal.returns-else-rounded-lt0-clause-value
returns-else-rounded-lt0-clause-value c =
    let small : unsigned_abs c.rounded.inside.value ≤ 10 ^ 36 = omega arith in
    let negative = sign_back c.rounded.inside.value c.round_to-rounded.result.value false small (ap (λ (d : Scaled). d.value) c.rounded.view_is) c.if-rounded-lt0.false in
    let d = c.args.d.now in
    let scale = ap (λ (s : Scaled). s.scale) c.d.view_is in
    let is : c.round_to-rounded.result ≡ rounded (c.args.grid.now.decimals + 6) c.args.d.now =
    c.round_to-rounded.ensures ∙ ap (λ (n : ℕ). rounded n d) (c.min.ensures ∙ ap (λ (n : ℕ). min n c.d.inside.scale) c.saturating_add.ensures ∙ ap (λ (n : ℕ). min (min (c.args.grid.now.decimals + 6) 4294967295) n) scale) ∙ rounded_least (c.args.grid.now.decimals + 6) 4294967295 d (omega arith) in
    let size = rw c.from.ensures at c.parts_of-size.ensures.value in
    rw (← is, negative) (size_above (capped (units (c.args.grid.now.decimals + 6) c.args.grid.now.halvings c.round_to-rounded.result)) c.parts_of-size.result size c.parts_of-size.ensures.size)
