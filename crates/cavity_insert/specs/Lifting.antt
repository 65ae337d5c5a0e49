-- The points of a list, lifted over a narrow frame.
use Rattle.std.specs.Prelude.{◌≡◌, ℕ, ◌<◌, ℤ, pos, negsuc, ◌≤ℤ◌, List, length, Option, IfSome}
use Rattle.sign_predicates.specs.Point.{Point}
use Rattle.sign_predicates.specs.Lifted.{IsInFrame}
use Rattle.sign_predicates.specs.declared.lifted.LiftedCorners.{LiftedCorners}
use Rattle.sign_predicates.specs.declared.tetrahedron.Corners.{Corners}
use Rattle.geo_laws.specs.Delaunay.{point}
use Rattle.cavity_insert.specs.declared.lifting.LiftedPoints.{LiftedPoints}

-- a coordinate of the grid
abbrev pub IsOnAxis : ℤ → Type 0
IsOnAxis z = (negsuc 536870911 ≤ℤ z) × (z ≤ℤ pos 536870912)

-- the steps of lifted corners
abbrev pub as_corners : LiftedCorners → Corners
as_corners t = record { a = t.a; b = t.b; c = t.c; d = t.d }

-- the frame has each point of the list in its place
pub record AreLifted (lifted : LiftedPoints) (ps : List Point) : Type 0 where
  pub some : 0 < lifted.frame.step
  pub count : length lifted.points ≡ length ps
  pub each : (i : ℕ) → i < length ps → IsInFrame lifted.frame (point lifted.points i) (point ps i)

-- if points are lifted, they are those of the list
abbrev pub MayBeLifted : Option LiftedPoints → List Point → Type 0
MayBeLifted lifted ps = IfSome lifted (λ list. AreLifted list ps)
