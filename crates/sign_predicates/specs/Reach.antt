-- How far from a corner of a tetrahedron the points in the sphere through its corners can be.
use Rattle.std.specs.Prelude.{ℕ, ◌+◌, ◌/◌, ◌≤◌, ℤ, pos, ◌+ℤ◌, ◌-ℤ◌, ◌*ℤ◌, ◌≤ℤ◌, unsigned_abs}
use Rattle.sign_predicates.specs.Point.{Point, from_to}
use Rattle.sign_predicates.specs.Orientation.{cross, volume}
use Rattle.sign_predicates.specs.Sphere.{square_length, in_sphere}
use Rattle.sign_predicates.specs.declared.tetrahedron.Corners.{Corners}

-- three numbers times the same coordinate of three vectors, with alternating signs
abbrev pub combined : ℤ → ℤ → ℤ → ℤ → ℤ → ℤ → ℤ
combined k x m y n z = k *ℤ x -ℤ m *ℤ y +ℤ n *ℤ z

-- the vector from a corner along the diameter of the sphere, times twice the volume and more
unfoldable pub pull : Point → Point → Point → Point
pull b c d = record {
  x = combined (square_length b) (cross c d).x (square_length c) (cross b d).x (square_length d) (cross b c).x;
  y = combined (square_length b) (cross c d).y (square_length c) (cross b d).y (square_length d) (cross b c).y;
  z = combined (square_length b) (cross c d).z (square_length c) (cross b d).z (square_length d) (cross b c).z;
}

-- the sizes of the coordinates together
abbrev pub sizes : Point → ℕ
sizes v = unsigned_abs v.x + unsigned_abs v.y + unsigned_abs v.z

-- how far is told: at least the diameter of the sphere, and at most twice that, rounded down
abbrev pub reach_of : Corners → ℕ
reach_of t = sizes (pull (from_to t.a t.b) (from_to t.a t.c) (from_to t.a t.d)) / unsigned_abs (volume t)

-- each coordinate of the points differs by at most r
pub record AreWithin (r : ℕ) (a e : Point) : Type 0 where
  pub x : unsigned_abs (e.x -ℤ a.x) ≤ r
  pub y : unsigned_abs (e.y -ℤ a.y) ≤ r
  pub z : unsigned_abs (e.z -ℤ a.z) ≤ r

-- no point further than r along an axis from the first corner is in the sphere or on it
abbrev pub IsReach : Corners → ℕ → Type 0
IsReach t r = (e : Point) → pos 0 ≤ℤ in_sphere t e → AreWithin r t.a e
