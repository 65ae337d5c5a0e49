-- Coordinates that are rounded to multiples of a unit.
use Rattle.std.specs.Prelude.{ℕ, ◌+◌, ◌-◌, ◌*◌, ◌/◌, ◌^◌, pos, int_lt, unsigned_abs, nat_lt, ◌&&◌, List, map, Option, Some, None, if◌then◌else◌}
use Rattle.grid_coords.specs.declared.points.DecimalPoint.{DecimalPoint}
use Rattle.run_steps.specs.declared.input.Input.{Input}
use Rattle.tet_text.specs.Decimals.{Scaled, lowest, with_sign}

-- the multiple of k that is nearest to over / under, and the greater of two
unfoldable pub nearest_multiple : ℕ → ℕ → ℕ → ℕ
nearest_multiple k over under = (2 * over + k * under) / (2 * k * under) * k

-- this many, where both numbers have at most 36 digits
abbrev pub if_short : ℕ → ℕ → Option ℕ
if_short over size = if nat_lt over (10 ^ 36) && nat_lt size (10 ^ 36) then Some size else None

-- the multiple of k that is nearest to n × 10^raise / 10^lower, where the numbers have at most 36 digits
unfoldable pub size_by : ℕ → ℕ → ℕ → ℕ → Option ℕ
size_by k n raise lower = let over = n * 10 ^ raise in if_short over (nearest_multiple k over (10 ^ lower))

-- the number of this size in units of 10^-m, with the sign of another one, which stands where there is no size
abbrev pub or_same : ℕ → Scaled → Option ℕ → Scaled
or_same m d None = d
or_same m d (Some size) = with_sign (int_lt d.value (pos 0)) (lowest size m)

-- the number rounded to a multiple of the unit, halves away from zero; one that has over 36 digits in its decimals stays
unfoldable pub multiple_near : Scaled → Scaled → Scaled
multiple_near u d = or_same u.scale d (size_by (unsigned_abs u.value) (unsigned_abs d.value) (u.scale - d.scale) (d.scale - u.scale))

abbrev pub point_by : Scaled → DecimalPoint → DecimalPoint
point_by u p = record { x = multiple_near u p.x; y = multiple_near u p.y; z = multiple_near u p.z; line = p.line }

-- the points, rounded to multiples of the unit where there is one
abbrev pub points_in : Option Scaled → List DecimalPoint → List DecimalPoint
points_in None ps = ps
points_in (Some u) ps = map (point_by u) ps

abbrev pub input_by : Option Scaled → Input → Input
input_by unit input = record input { nodes = record input.nodes { decimals = points_in unit input.nodes.decimals } }
