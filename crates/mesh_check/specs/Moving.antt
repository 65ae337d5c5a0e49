-- Exact coordinates less those of an origin.
use Rattle.std.specs.Prelude.{◌≡◌, ◌*◌, ◌^◌, ℤ, pos, ◌-ℤ◌, ◌*ℤ◌, int_lt, unsigned_abs, nat_lt, Bool, true, ◌&&◌, not, List, find, map, Option, Some, None, Result, if◌then◌else◌}
use Rattle.tet_text.specs.Decimals.{Scaled, signed}
use Rattle.grid_coords.specs.Choice.{unless_over}
use Rattle.grid_coords.specs.Origins.{moved, moved_point}
use Rattle.grid_coords.specs.declared.grid.Range.{Range}
use Rattle.grid_coords.specs.declared.origin.WholePoint.{WholePoint}
use Rattle.grid_coords.specs.declared.points.DecimalPoint.{DecimalPoint}

-- the number less a whole number, in units of the number's last decimal
abbrev pub difference : ℤ → Scaled → ℤ
difference w d = d.value -ℤ w *ℤ pos (10 ^ d.scale)

-- the number less a whole number has at most 36 digits
abbrev pub is_short : ℤ → Scaled → Bool
is_short w d = nat_lt (unsigned_abs (difference w d)) (10 ^ 36)

-- m is the number less a whole number: its size, value / 10^scale, is that of the difference, and so is its sign
pub record IsDifference (w : ℤ) (d m : Scaled) : Type 0 where
  pub size : unsigned_abs m.value * 10 ^ d.scale ≡ unsigned_abs (difference w d) * 10 ^ m.scale
  pub sign : m.value ≡ signed (int_lt (difference w d) (pos 0)) (unsigned_abs m.value)

-- a number that is moved is exactly less by the whole number, where that has at most 36 digits
abbrev pub MovedLaw : Type 0
MovedLaw = (w : ℤ) (d : Scaled) → is_short w d ≡ true → IsDifference w d (moved w d)

-- the number less a whole number, where that has at most 36 digits
unfoldable pub moved_within : ℤ → Scaled → Option Scaled
moved_within w d = if is_short w d then Some (moved w d) else None

-- each coordinate of the point less that of the origin has at most 36 digits
abbrev pub is_short_from : WholePoint → DecimalPoint → Bool
is_short_from w p = is_short w.x p.x && (is_short w.y p.y && is_short w.z p.z)

-- the point less the origin, where each coordinate then has at most 36 digits
unfoldable pub moved_point_within : WholePoint → DecimalPoint → Option DecimalPoint
moved_point_within w p = if is_short_from w p then Some (moved_point w p) else None

-- the first point with a coordinate that has more digits less that of the origin
unfoldable pub first_long : WholePoint → List DecimalPoint → Option DecimalPoint
first_long w ps = find (λ p. not (is_short_from w p)) ps

-- the points less the origin, or the line of that first point
unfoldable pub moved_from : WholePoint → List DecimalPoint → Result (List DecimalPoint) Range
moved_from w ps = unless_over (first_long w ps) (map (moved_point w) ps)
