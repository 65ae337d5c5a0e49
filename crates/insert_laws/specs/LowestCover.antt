-- Lists of the lowest tetrahedra.
use Rattle.std.specs.Prelude.{◌↔◌, ℕ, ℤ, List, AllPairs, Contains}
use Rattle.sign_predicates.specs.Point.{Point}
use Rattle.geo_laws.specs.Delaunay.{AreNumbersOf, RowBefore}
use Rattle.geo_laws.specs.Height.{IsLowestAmong}
use Rattle.geo_laws.specs.Laws.{IsTriangulationAmong}
use Rattle.geo_laws.specs.declared.tetrahedra.Tet.{Tet}

-- the list has exactly the lowest tetrahedra of the numbers, strictly ascending
pub record IsLowestListAmong (lifts : ℕ → ℤ) (ps : List Point) (ms : List ℕ) (rows : List Tet) : Type 0 where
  pub exactly : (t : Tet) → Contains rows t ↔ IsLowestAmong ps ms lifts t
  pub ascending : AllPairs RowBefore rows

-- It triangulates the hull of its points
abbrev pub LowestCoverLaw : Type 0
LowestCoverLaw = (lifts : ℕ → ℤ) (ps : List Point) (ms : List ℕ) → AreNumbersOf ps ms → (rows : List Tet)
    → IsLowestListAmong lifts ps ms rows
    → IsTriangulationAmong ps ms rows
