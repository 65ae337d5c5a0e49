-- Points with whole coordinates, rational points, and vectors.
use Rattle.std.specs.Prelude.{◌≡◌, ◌⊎◌, ℤ, pos, negsuc, ◌-ℤ◌, ◌*ℤ◌, ◌<ℤ◌, ◌≤ℤ◌, ◌*◌, ◌≤◌, unsigned_abs}

-- a point of the grid, or a vector between two
pub record Point : Type 0 where
  pub x : ℤ
  pub y : ℤ
  pub z : ℤ

-- the point (x/w, y/w, z/w), where w is above 0
pub record RationalPoint : Type 0 where
  pub x : ℤ
  pub y : ℤ
  pub z : ℤ
  pub w : ℤ

-- the vector from a to b
abbrev pub from_to : Point → Point → Point
from_to a b = record { x = b.x -ℤ a.x; y = b.y -ℤ a.y; z = b.z -ℤ a.z }

-- the vector from a to the rational point p, times w
abbrev pub from_to_rational : Point → RationalPoint → Point
from_to_rational a p = record { x = p.x -ℤ a.x *ℤ p.w; y = p.y -ℤ a.y *ℤ p.w; z = p.z -ℤ a.z *ℤ p.w }

-- a grid point, as a rational point
abbrev pub as_rational : Point → RationalPoint
as_rational p = record { x = p.x; y = p.y; z = p.z; w = pos 1 }

-- P holds of each rational point
abbrev pub EachRational : (RationalPoint → Type 0) → Type 0
EachRational P = (p : RationalPoint) → pos 0 <ℤ p.w → P p

-- P holds of some rational point
abbrev pub SomeRational : (RationalPoint → Type 0) → Type 0
SomeRational P = (p : RationalPoint) × (pos 0 <ℤ p.w) × P p

-- each coordinate is at most 2^29 in size
pub record IsOnGrid (p : Point) : Type 0 where
  pub x_low : negsuc 536870911 ≤ℤ p.x
  pub x_high : p.x ≤ℤ pos 536870912
  pub y_low : negsuc 536870911 ≤ℤ p.y
  pub y_high : p.y ≤ℤ pos 536870912
  pub z_low : negsuc 536870911 ≤ℤ p.z
  pub z_high : p.z ≤ℤ pos 536870912

-- a number at most 2^29 + 1 in size over the denominator w, which is 1 or 10^6
abbrev pub IsNear : ℤ → ℤ → Type 0
IsNear w x = unsigned_abs x ≤ 536870913 * unsigned_abs w

-- the denominator is 1 or 10^6, and each coordinate is at most 2^29 + 1 in size
pub record IsNearGrid (p : RationalPoint) : Type 0 where
  pub w_is : (p.w ≡ pos 1) ⊎ (p.w ≡ pos 1000000)
  pub x_near : IsNear p.w p.x
  pub y_near : IsNear p.w p.y
  pub z_near : IsNear p.w p.z

abbrev pub origin : Point
origin = record { x = pos 0; y = pos 0; z = pos 0 }
