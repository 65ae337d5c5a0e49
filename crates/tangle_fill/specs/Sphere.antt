-- Boxes round spheres.
use Rattle.std.specs.Prelude.{pos, ◌≤ℤ◌}
use Rattle.sign_predicates.specs.Point.{Point}
use Rattle.sign_predicates.specs.Sphere.{in_sphere}
use Rattle.sign_predicates.specs.declared.tetrahedron.Corners.{Corners}
use Rattle.box_tree.specs.declared.bounds.Bounds.{Bounds}
use Rattle.box_tree.specs.Bounds.{HoldsPoint}

-- the box holds the points in the sphere through the corners, and on it
abbrev pub HoldsSphere : Corners → Bounds → Type 0
HoldsSphere t b = (e : Point) → pos 0 ≤ℤ in_sphere t e → HoldsPoint b e
