-- Coordinates of a grid have no more decimals than its unit.
use Rattle.std.proofs.Common.{ℕ, zero, suc, ◌+◌, ◌%◌, ◌*◌, ◌^◌, ◌/◌, ◌≤◌, ℤ, unsigned_abs, Bool, true, false, cond, arith}
use Rattle.std.specs.Prelude.{◌==◌}
use Rattle.tet_text.specs.Decimals.{lowest}
use Rattle.grid_coords.specs.Units.{decimal_of_units}
use Rattle.grid_coords.specs.declared.grid.Grid.{Grid}
use Rattle.run_laws.specs.CheckedRun.{FewDecimalsLaw}

lowest_few : (n scale : ℕ) → (lowest n scale).1 ≤ scale
lowest_few n zero = omega arith
lowest_few n (suc scale) = go (n % 10 == 0) (lowest_few (n / 10) scale)
  where
    go : (b : Bool) → (lowest (n / 10) scale).1 ≤ scale → (cond b (lowest (n / 10) scale) (n, suc scale)).1 ≤ suc scale
    go true few = omega arith
    go false few = omega arith

at_few : (g : Grid) (c : ℤ) → g.decimals + g.halvings ≤ 35 → (decimal_of_units g c).scale ≤ 35
unfolding decimal_of_units
at_few g c few = let less = lowest_few (unsigned_abs c * 5 ^ g.halvings) (g.decimals + g.halvings) in omega arith

pub few_decimals : FewDecimalsLaw
few_decimals g p few = record { x = at_few g p.x few; y = at_few g p.y few; z = at_few g p.z few }
