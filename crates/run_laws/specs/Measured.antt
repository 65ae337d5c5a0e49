-- Coordinates that are measured from an origin, and written.
use Rattle.std.specs.Prelude.{◌≡◌, ◌^◌, ◌<◌, ℤ, pos, ◌-ℤ◌, ◌*ℤ◌, unsigned_abs}
use Rattle.tet_text.specs.Decimals.{Scaled, IsDecimal}
use Rattle.grid_coords.specs.Origins.{decimal_from, moved}
use Rattle.grid_coords.specs.Units.{grid_coordinate, IsDecimalOnGrid}
use Rattle.grid_coords.specs.declared.grid.Grid.{Grid}

-- The number that is written for a coordinate less that of the origin is the coordinate, where the difference has at
-- most 36 digits and is on the grid
abbrev pub WrittenBackLaw : Type 0
WrittenBackLaw =
    (w : ℤ) (g : Grid) (d : Scaled) → IsDecimal d → unsigned_abs (d.value -ℤ w *ℤ pos (10 ^ d.scale)) < 10 ^ 36
    → IsDecimalOnGrid g (moved w d) → decimal_from w g (grid_coordinate g (moved w d)) ≡ d
