-- The edges of lowest tetrahedra at a corner, seen from one of them.
use Rattle.std.specs.Prelude.{◌≢◌, ℕ, ◌<◌, pos, ◌≤ℤ◌, List, Contains, ℤ}
use Rattle.std.specs.List.{slice_index_or}
use Rattle.sign_predicates.specs.Point.{Point}
use Rattle.sign_predicates.specs.Orientation.{side, opposite_face, IsPositive}
use Rattle.geo_laws.specs.Delaunay.{point, corners, numbers, AreNumbersOf}
use Rattle.geo_laws.specs.Height.{IsLowestAmong}
use Rattle.geo_laws.specs.declared.tetrahedra.Tet.{Tet}
use Rattle.insert_laws.specs.LowestInsertion.{HasSameCorners}

-- the point b is strictly beyond no face of the four t but the one opposite its corner a: it lies in the closed cone of t from a
abbrev pub IsInCone : List Point → Tet → ℕ → ℕ → Type 0
IsInCone ps t a b = (k : ℕ) → k < 4 → slice_index_or (numbers t) k a ≢ a → pos 0 ≤ℤ side (opposite_face (corners ps t) k) (point ps b)

-- In the closed cone of a lowest tetrahedron r from its corner a, no lowest tetrahedron has a side from a but along those of r: a point b
-- there with
-- such a side is a corner of r. The four t are the corners of r in any even arrangement
abbrev pub LowestConeLaw : Type 0
LowestConeLaw = (lifts : ℕ → ℤ) (ps : List Point) (ms : List ℕ) → AreNumbersOf ps ms → (s r t : Tet) → IsLowestAmong ps ms lifts s
    → IsLowestAmong ps ms lifts r → HasSameCorners t r → IsPositive (corners ps t) → (a b : ℕ) → a ≢ b
    → Contains (numbers t) a → IsInCone ps t a b → Contains (numbers s) a → Contains (numbers s) b → Contains (numbers t) b
