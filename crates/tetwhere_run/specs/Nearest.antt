-- Points rounded to the nearest millionth of a grid unit.
use Rattle.std.specs.Prelude.{ℕ, ◌+◌, ◌*◌, ◌^◌, ℤ, pos, unsigned_abs}
use Rattle.sign_predicates.specs.Point.{RationalPoint}
use Rattle.tet_text.specs.Decimals.{Scaled, signed}
use Rattle.grid_coords.specs.declared.grid.Grid.{Grid}
use Rattle.grid_coords.specs.declared.points.DecimalPoint.{DecimalPoint}
use Rattle.grid_coords.specs.Rounding.{nearest_whole}
use Rattle.grid_coords.specs.Units.{capped, is_negative}

-- the size of value / 10^scale in millionths of a grid unit: the whole number nearest to value × 10^(decimals + 6) × 2^halvings / 10^scale
unfoldable pub millionths : Grid → Scaled → ℕ
millionths g d = nearest_whole (unsigned_abs d.value * 10 ^ (g.decimals + 6) * 2 ^ g.halvings) d.scale

-- the number in millionths of a grid unit, halves away from zero
abbrev pub nearest_coordinate : Grid → Scaled → ℤ
nearest_coordinate g d = signed (is_negative d) (capped (millionths g d))

-- the point over the denominator 10^6
abbrev pub nearest_point : Grid → DecimalPoint → RationalPoint
nearest_point g p = record { x = nearest_coordinate g p.x; y = nearest_coordinate g p.y; z = nearest_coordinate g p.z; w = pos 1000000 }
