-- Numbers in millionths of a grid unit.
use Rattle.std.proofs.Common.{◌≡◌, ℕ, ◌+◌, ◌-◌, ◌*◌, ◌^◌, ◌<◌, ◌≤◌, unsigned_abs, sym, ap, ◌∙◌, arith}
use Rattle.std.proofs.lemmas.Nat.{pow-add}
use Rattle.tet_text.specs.Decimals.{Scaled}
use Rattle.grid_coords.specs.declared.grid.Grid.{Grid}
use Rattle.grid_coords.specs.Rounding.{nearest_whole}
use Rattle.grid_coords.specs.Units.{units}
use Rattle.tetwhere_run.specs.Nearest.{millionths}
use Rattle.tetwhere_run.proofs.Tens.{nearest_of_whole, nearest_without_tens}

-- a number with no more decimals than that is a whole number of them
pub whole_millionths : (g : Grid) (d : Scaled) → d.scale ≤ g.decimals + 6 → millionths g d ≡ units (g.decimals + 6) g.halvings d
unfolding millionths units
whole_millionths g d le =
    let n = unsigned_abs d.value in
    let more = g.decimals + 6 - d.scale in
    let all : more + d.scale ≡ g.decimals + 6 = omega arith in
    let tens : 10 ^ (g.decimals + 6) ≡ 10 ^ more * 10 ^ d.scale = ap (λ (k : ℕ). 10 ^ k) (sym all) ∙ pow-add 10 more d.scale in
    let turned : n * (10 ^ more * 10 ^ d.scale) * 2 ^ g.halvings ≡ n * 10 ^ more * 2 ^ g.halvings * 10 ^ d.scale = omega arith in
    ap (λ (m : ℕ). nearest_whole m d.scale) (ap (λ (t : ℕ). n * t * 2 ^ g.halvings) tens ∙ turned) ∙ nearest_of_whole (n * 10 ^ more * 2 ^ g.halvings) d.scale

-- one with more decimals is rounded by those that are too many
pub further_millionths : (g : Grid) (d : Scaled) → g.decimals + 6 < d.scale → millionths g d ≡ nearest_whole (unsigned_abs d.value * 2 ^ g.halvings) (d.scale - (g.decimals + 6))
unfolding millionths
further_millionths g d lt =
    let n = unsigned_abs d.value in
    let some = g.decimals + 6 in
    let all : d.scale - some + some ≡ d.scale = omega arith in
    let turned : n * 10 ^ some * 2 ^ g.halvings ≡ n * 2 ^ g.halvings * 10 ^ some = omega arith in
    ap (λ (m : ℕ). nearest_whole m d.scale) turned ∙ ap (nearest_whole (n * 2 ^ g.halvings * 10 ^ some)) (sym all) ∙ nearest_without_tens (n * 2 ^ g.halvings) some (d.scale - some)
