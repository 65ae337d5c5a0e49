-- Numbers and points in the units of a grid.
use Rattle.std.specs.Prelude.{ℕ, ◌+◌, ◌-◌, ◌*◌, ◌^◌, ◌≤◌, ◌≡◌, ℤ, pos, int_lt, unsigned_abs, Bool, Option, Some, None, nat_le, if◌then◌else◌, List}
use Rattle.sign_predicates.specs.Point.{Point, RationalPoint}
use Rattle.tet_text.specs.Decimals.{Scaled, lowest, signed, with_sign}
use Rattle.tet_text.specs.Printing.{decimal_text}
use Rattle.grid_coords.specs.declared.grid.Grid.{Grid}
use Rattle.grid_coords.specs.declared.points.DecimalPoint.{DecimalPoint}
use Rattle.grid_coords.specs.Rounding.{rounded}

-- the greatest size of a grid coordinate, 2^29
abbrev pub limit : ℕ
limit = 536870912

-- the number, where it is at most this
abbrev pub if_at_most : ℕ → ℕ → Option ℕ
if_at_most most n = if nat_le n most then Some n else None

-- the size of the number in units of 1 / (10^decimals × 2^halvings), where it has at most `decimals` decimals
unfoldable pub units : ℕ → ℕ → Scaled → ℕ
units decimals halvings d = unsigned_abs d.value * 10 ^ (decimals - d.scale) * 2 ^ halvings

-- the number is a whole number of grid units, and at most 2^29 of them in size
pub record IsDecimalOnGrid (g : Grid) (d : Scaled) : Type 0 where
  pub whole : d.scale ≤ g.decimals
  pub small : units g.decimals g.halvings d ≤ limit

-- each coordinate of the point is a whole number of grid units, and at most 2^29 of them in size
pub record IsPointOnGrid (g : Grid) (p : DecimalPoint) : Type 0 where
  pub x : IsDecimalOnGrid g p.x
  pub y : IsDecimalOnGrid g p.y
  pub z : IsDecimalOnGrid g p.z

abbrev pub is_negative : Scaled → Bool
is_negative d = int_lt d.value (pos 0)

-- the number in grid units
abbrev pub grid_coordinate : Grid → Scaled → ℤ
grid_coordinate g d = signed (is_negative d) (units g.decimals g.halvings d)

-- the point in grid units
abbrev pub grid_point : Grid → DecimalPoint → Point
grid_point g p = record { x = grid_coordinate g p.x; y = grid_coordinate g p.y; z = grid_coordinate g p.z }

-- a size in millionths of a grid unit, and 2^29 + 1 grid units where it is over 2^29 of them
abbrev pub capped : ℕ → ℕ
capped n = if nat_le n (limit * 1000000) then n else (limit + 1) * 1000000

-- the number, rounded to six decimals more than the grid has, in millionths of a grid unit
abbrev pub rational_coordinate : Grid → Scaled → ℤ
rational_coordinate g d =
    let r = rounded (g.decimals + 6) d in
    signed (is_negative r) (capped (units (g.decimals + 6) g.halvings r))

-- the point over the denominator 10^6
abbrev pub rational_point : Grid → DecimalPoint → RationalPoint
rational_point g p = record { x = rational_coordinate g p.x; y = rational_coordinate g p.y; z = rational_coordinate g p.z; w = pos 1000000 }

-- the decimal of c grid units: c / (10^decimals × 2^halvings) is c × 5^halvings / 10^(decimals + halvings)
unfoldable pub decimal_of_units : Grid → ℤ → Scaled
decimal_of_units g c = with_sign (int_lt c (pos 0)) (lowest (unsigned_abs c * 5 ^ g.halvings) (g.decimals + g.halvings))

-- the number value / 10^scale is c grid units: value × 10^decimals × 2^halvings is c × 10^scale, with its sign
pub record IsNumberAt (g : Grid) (c : ℤ) (d : Scaled) : Type 0 where
  pub size : unsigned_abs d.value * 10 ^ g.decimals * 2 ^ g.halvings ≡ unsigned_abs c * 10 ^ d.scale
  pub sign : d.value ≡ signed (int_lt c (pos 0)) (unsigned_abs d.value)

-- and its text
abbrev pub grid_text : Grid → ℤ → List ℕ
grid_text g c = decimal_text (decimal_of_units g c)
