-- What vectors between two points of the grid sum to.
use Rattle.std.specs.Prelude.{◌^◌, ◌≤◌, unsigned_abs}
use Rattle.sign_predicates.specs.Point.{Point}

-- each coordinate is at most that of a cross product of two such vectors
pub record IsSmallNormal (v : Point) : Type 0 where
  pub x_small : unsigned_abs v.x ≤ 2 ^ 61
  pub y_small : unsigned_abs v.y ≤ 2 ^ 61
  pub z_small : unsigned_abs v.z ≤ 2 ^ 61
