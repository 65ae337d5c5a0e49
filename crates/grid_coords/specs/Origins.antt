-- Coordinates that are measured from a point with whole coordinates.
use Rattle.std.specs.Prelude.{ℕ, zero, suc, ◌+◌, ◌*◌, ◌^◌, ◌≤◌, max, ℤ, pos, neg_ℤ, ◌+ℤ◌, ◌-ℤ◌, ◌*ℤ◌, int_lt, int_div, unsigned_abs, nat_lt, nat_le, ◌==◌, Bool, List, [], ◌∷◌, Option, Some, None, if◌then◌else◌}
use Rattle.std.specs.Int.{int_min, int_max}
use Rattle.tet_text.specs.Decimals.{Scaled, lowest, with_sign}
use Rattle.tet_text.specs.Printing.{decimal_text}
use Rattle.grid_coords.specs.declared.grid.Grid.{Grid}
use Rattle.grid_coords.specs.declared.origin.WholePoint.{WholePoint}
use Rattle.grid_coords.specs.declared.points.DecimalPoint.{DecimalPoint}
use Rattle.grid_coords.specs.Rounding.{rounded}

-- ---- the origin of a list of points

-- the greatest size of a coordinate of an origin, also in units of 10^-decimals
abbrev pub most_whole : ℕ
most_whole = 100000000000000000

-- the number, or the nearest one whose size is at most 10^17
abbrev pub clamped : ℤ → ℤ
clamped n =
    if int_lt (pos most_whole) n then pos most_whole else
    if int_lt n (neg_ℤ (pos most_whole)) then neg_ℤ (pos most_whole) else n

-- the whole number nearest to a coordinate
abbrev pub whole : Scaled → ℤ
whole d = clamped (rounded 0 d).value

abbrev pub whole_point : DecimalPoint → WholePoint
whole_point p = record { x = whole p.x; y = whole p.y; z = whole p.z }

abbrev pub lower : WholePoint → WholePoint → WholePoint
lower a b = record { x = int_min a.x b.x; y = int_min a.y b.y; z = int_min a.z b.z }

abbrev pub higher : WholePoint → WholePoint → WholePoint
higher a b = record { x = int_max a.x b.x; y = int_max a.y b.y; z = int_max a.z b.z }

-- each coordinate is at most 10^17 in size
pub record IsSmallPoint (w : WholePoint) : Type 0 where
  pub x : unsigned_abs w.x ≤ most_whole
  pub y : unsigned_abs w.y ≤ most_whole
  pub z : unsigned_abs w.z ≤ most_whole

-- the low corner of the box of a point and the points of a list, in whole numbers
unfoldable pub low_corner : WholePoint → List DecimalPoint → WholePoint
low_corner w [] = w
low_corner w (p ∷ ps) = low_corner (lower w (whole_point p)) ps

-- and its high corner
unfoldable pub high_corner : WholePoint → List DecimalPoint → WholePoint
high_corner w [] = w
high_corner w (p ∷ ps) = high_corner (higher w (whole_point p)) ps

-- half the sum, rounded toward zero
abbrev pub middle : ℤ → ℤ → ℤ
middle a b = int_div (a +ℤ b) (pos 2)

abbrev pub middle_point : WholePoint → WholePoint → WholePoint
middle_point a b = record { x = middle a.x b.x; y = middle a.y b.y; z = middle a.z b.z }

-- the greatest size of a coordinate
abbrev pub reach : WholePoint → ℕ
reach w = max (unsigned_abs w.x) (max (unsigned_abs w.y) (unsigned_abs w.z))

-- coordinates are measured from a point where it is not zero
abbrev pub if_some : WholePoint → Option WholePoint
if_some w = if reach w == 0 then None else Some w

-- The origin of points: the middle of their box, in whole numbers; none where that is zero, and of no points
unfoldable pub origin_of : List DecimalPoint → Option WholePoint
origin_of [] = None
origin_of (p ∷ ps) = if_some (middle_point (low_corner (whole_point p) (p ∷ ps)) (high_corner (whole_point p) (p ∷ ps)))

-- each coordinate of the origin is at most 10^17 units of 10^-decimals
abbrev pub is_near : ℕ → WholePoint → Bool
is_near decimals w = nat_le (reach w * 10 ^ decimals) most_whole

-- the most decimals up to this number with which the origin is near
unfoldable pub most_near : WholePoint → ℕ → ℕ
most_near w zero = zero
most_near w (suc n) = if is_near (suc n) w then suc n else most_near w n

-- each coordinate of the origin, and 1, is at most 10^17 units of 10^-decimals
pub record IsNear (decimals : ℕ) (w : WholePoint) : Type 0 where
  pub fine : decimals ≤ 17
  pub x : unsigned_abs w.x * 10 ^ decimals ≤ most_whole
  pub y : unsigned_abs w.y * 10 ^ decimals ≤ most_whole
  pub z : unsigned_abs w.z * 10 ^ decimals ≤ most_whole

-- the decimals are given, and the origin is near with them
abbrev pub IsNearBy : Option ℕ → WholePoint → Type 0
IsNearBy None w = ⊥
IsNearBy (Some decimals) w = IsNear decimals w

-- numbers rounded to this number of decimals can be measured from the origin
pub record CanMeasure (decimals : ℕ) (w : WholePoint) : Type 0 where
  pub fine : decimals ≤ 23
  pub x : unsigned_abs w.x * 10 ^ decimals ≤ 10 ^ 23
  pub y : unsigned_abs w.y * 10 ^ decimals ≤ 10 ^ 23
  pub z : unsigned_abs w.z * 10 ^ decimals ≤ 10 ^ 23

-- ---- coordinates from there

-- the number less a whole number; a number that would have more than 36 digits then stays
unfoldable pub moved : ℤ → Scaled → Scaled
moved w d =
    let n = d.value -ℤ w *ℤ pos (10 ^ d.scale) in
    if nat_lt (unsigned_abs n) (10 ^ 36) then with_sign (int_lt n (pos 0)) (lowest (unsigned_abs n) d.scale) else d

abbrev pub moved_point : WholePoint → DecimalPoint → DecimalPoint
moved_point w p = record { x = moved w.x p.x; y = moved w.y p.y; z = moved w.z p.z; line = p.line }

-- c grid units and a whole number, in units of 1 / 10^(decimals + halvings): a grid unit is 5^halvings of them
abbrev pub parts_from : ℤ → Grid → ℤ → ℤ
parts_from w g c = c *ℤ pos (5 ^ g.halvings) +ℤ w *ℤ pos (10 ^ (g.decimals + g.halvings))

-- the decimal of c grid units and a whole number
unfoldable pub decimal_from : ℤ → Grid → ℤ → Scaled
decimal_from w g c =
    let n = parts_from w g c in
    with_sign (int_lt n (pos 0)) (lowest (unsigned_abs n) (g.decimals + g.halvings))

-- and its text
abbrev pub text_from : ℤ → Grid → ℤ → List ℕ
text_from w g c = decimal_text (decimal_from w g c)
