-- The sizes of three coordinates.
use Rattle.std.specs.Prelude.{ℕ, ◌+◌, ◌*◌, ◌≤◌}
use Rattle.tet_shapes.specs.declared.shape.Sizes.{Sizes}

-- the sum of their squares
abbrev pub square_sum : Sizes → ℕ
square_sum n = n.x * n.x + n.y * n.y + n.z * n.z

-- each is at most that
pub record AreAtMost (most : ℕ) (n : Sizes) : Type 0 where
  pub x : n.x ≤ most
  pub y : n.y ≤ most
  pub z : n.z ≤ most
