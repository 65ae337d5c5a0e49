-- The edges of Delaunay tetrahedra at a corner, seen from one of them.
use Rattle.std.specs.Prelude.{◌≢◌, ℕ, List, Contains}
use Rattle.sign_predicates.specs.Point.{Point}
use Rattle.sign_predicates.specs.Orientation.{IsPositive}
use Rattle.geo_laws.specs.Delaunay.{corners, numbers, AreNumbersOf, IsDelaunayAmong}
use Rattle.geo_laws.specs.declared.tetrahedra.Tet.{Tet}
use Rattle.insert_laws.specs.Insertion.{HasSameCorners}
pub use Rattle.insert_laws.specs.LowestCone.{IsInCone}

-- In the closed cone of a Delaunay tetrahedron r from its corner a, no Delaunay tetrahedron has a side from a but along those of r: a point
-- b there with such a side is a corner of r. The four t are the corners of r in any even arrangement
abbrev pub ConeLaw : Type 0
ConeLaw = (ps : List Point) (ms : List ℕ) → AreNumbersOf ps ms → (s r t : Tet) → IsDelaunayAmong ps ms s → IsDelaunayAmong ps ms r
    → HasSameCorners t r → IsPositive (corners ps t) → (a b : ℕ) → a ≢ b
    → Contains (numbers t) a → IsInCone ps t a b → Contains (numbers s) a → Contains (numbers s) b → Contains (numbers t) b
