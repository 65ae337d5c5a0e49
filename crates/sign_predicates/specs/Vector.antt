-- Vectors between two points of the grid.
use Rattle.std.specs.Prelude.{ℤ, ◌+ℤ◌, ◌-ℤ◌, ◌*ℤ◌, ◌^◌, ◌≤◌, unsigned_abs}
use Rattle.sign_predicates.specs.Point.{Point}
use Rattle.sign_predicates.specs.Orientation.{det}
use Rattle.sign_predicates.specs.Sphere.{square_length}

-- a difference of two coordinates: at most 2^30 in size
abbrev pub IsDifference : ℤ → Type 0
IsDifference z = unsigned_abs z ≤ 2 ^ 30

-- each coordinate is a difference of two coordinates of the grid
pub record IsGridVector (v : Point) : Type 0 where
  pub x_small : IsDifference v.x
  pub y_small : IsDifference v.y
  pub z_small : IsDifference v.z

-- each coordinate is at most 2^20 in size
pub record IsShort (v : Point) : Type 0 where
  pub x_short : unsigned_abs v.x ≤ 2 ^ 20
  pub y_short : unsigned_abs v.y ≤ 2 ^ 20
  pub z_short : unsigned_abs v.z ≤ 2 ^ 20

-- the determinant of two rows of two numbers
unfoldable pub det_of_two : ℤ → ℤ → ℤ → ℤ → ℤ
det_of_two a b c d = a *ℤ d -ℤ b *ℤ c

-- the minor of two vectors in their first two coordinates
abbrev pub minor : Point → Point → ℤ
minor u v = det_of_two u.x u.y v.x v.y

-- the sum of `in_sphere` at the vectors from the point to the corners
unfoldable pub sphere_sum : Point → Point → Point → Point → ℤ
sphere_sum a b c d = square_length a *ℤ det b c d -ℤ square_length b *ℤ det a c d +ℤ square_length c *ℤ det a b d -ℤ square_length d *ℤ det a b c

-- each coordinate is at most that of a cross product of two such vectors
pub record IsSmallNormal (v : Point) : Type 0 where
  pub x_small : unsigned_abs v.x ≤ 2 ^ 61
  pub y_small : unsigned_abs v.y ≤ 2 ^ 61
  pub z_small : unsigned_abs v.z ≤ 2 ^ 61
