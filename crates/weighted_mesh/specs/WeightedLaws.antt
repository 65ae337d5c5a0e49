-- The laws of the regular list, over the definitions alone.
use Rattle.std.specs.Prelude.{◌≡◌, ◌↔◌, ℕ, ◌<◌, ℤ, pos, IsTrue, List, length, Contains}
use Rattle.sign_predicates.specs.Point.{Point, EachRational}
use Rattle.sign_predicates.specs.Orientation.{IsPositive, StrictlyInside}
use Rattle.geo_laws.specs.Delaunay.{corners, numbers, IsOn, AreNumbersOf, IsDelaunayAmong}
use Rattle.geo_laws.specs.Hull.{InHullAmong}
use Rattle.geo_laws.specs.Height.{IsLexPositive, residual, IsLowestAmong}
use Rattle.geo_laws.specs.Laws.{IsMetOrSame, IsGeneric, IsTriangulationAmong}
use Rattle.geo_laws.specs.declared.tetrahedra.Tet.{Tet}
use Rattle.weighted_mesh.specs.Regular.{weight, weighted_lift, is_weighted_outside, IsRegularAmong, IsRegularListAmong}

-- The lifting map: a further point is weighted outside of a positive tetrahedron, ties included, exactly where its lifted height is above
-- the
-- tetrahedron's
abbrev pub WeightedLiftLaw : Type 0
WeightedLiftLaw = (ps : List Point) (ws : List ℤ) (t : Tet) (e : ℕ) → IsOn ps t → e < length ps → IsPositive (corners ps t)
    → ¬ Contains (numbers t) e
    → IsTrue (is_weighted_outside ps ws t e) ↔ IsLexPositive (residual ps (weighted_lift ps ws) t e)

-- The regular tetrahedra are the lowest ones
abbrev pub RegularRowLaw : Type 0
RegularRowLaw = (ps : List Point) (ws : List ℤ) (ms : List ℕ) → AreNumbersOf ps ms → (t : Tet)
    → IsRegularAmong ps ws ms t ↔ IsLowestAmong ps ms (weighted_lift ps ws) t

-- Power diagrams: two regular tetrahedra are properly met, and they are equal where a rational point is strictly inside both
abbrev pub WeightedRadicalLaw : Type 0
WeightedRadicalLaw = (ps : List Point) (ws : List ℤ) (ms : List ℕ) → AreNumbersOf ps ms → (s t : Tet) → IsRegularAmong ps ws ms s
    → IsRegularAmong ps ws ms t → IsMetOrSame ps s t

-- A rational point of the hull, off all planes through three of the points, is strictly inside a regular tetrahedron
abbrev pub WeightedLeastHeightLaw : Type 0
WeightedLeastHeightLaw = (ps : List Point) (ws : List ℤ) (ms : List ℕ) → AreNumbersOf ps ms
    → EachRational (λ x. InHullAmong ps ms x → IsGeneric ps ms x → (t : Tet) × IsRegularAmong ps ws ms t × StrictlyInside (corners ps t) x)

-- The regular list triangulates the hull of all its points, hidden ones included
abbrev pub WeightedCoverLaw : Type 0
WeightedCoverLaw = (ps : List Point) (ws : List ℤ) (ms : List ℕ) → AreNumbersOf ps ms → (rows : List Tet) → IsRegularListAmong ps ws ms rows
    → IsTriangulationAmong ps ms rows

-- Where all weights are 0 the regular tetrahedra are the Delaunay tetrahedra
abbrev pub NoWeightsLaw : Type 0
NoWeightsLaw = (ps : List Point) (ws : List ℤ) (ms : List ℕ) → AreNumbersOf ps ms → ((i : ℕ) → weight ws i ≡ pos 0) → (t : Tet)
    → IsRegularAmong ps ws ms t ↔ IsDelaunayAmong ps ms t
