-- The point halfway between two points.
use Rattle.std.specs.Prelude.{◌≡◌, ◌+ℤ◌}
use Rattle.sign_predicates.specs.Point.{Point}

-- each coordinate of m is half the sum of those of a and b
pub record IsMidpoint (a b m : Point) : Type 0 where
  pub x : m.x +ℤ m.x ≡ a.x +ℤ b.x
  pub y : m.y +ℤ m.y ≡ a.y +ℤ b.y
  pub z : m.z +ℤ m.z ≡ a.z +ℤ b.z

-- some coordinate's sum is odd, and so there is none with whole coordinates
abbrev pub HasNoMidpoint : Point → Point → Type 0
HasNoMidpoint a b = (m : Point) → ¬ IsMidpoint a b m
