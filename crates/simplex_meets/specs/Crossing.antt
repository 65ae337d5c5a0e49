-- Triangles of facets and pieces that are not properly met.
use Rattle.std.specs.Prelude.{◌≡◌, ℕ, ◌<◌, Bool, IsTrue, List, ◌++◌, length, map, All}
use Rattle.std.specs.Prelude.{Result, MatchResult, ⊤, slice_index_or}
use Rattle.sign_predicates.specs.Point.{Point}
use Rattle.geo_laws.specs.Simplex.{ProperlyMet}
use Rattle.geo_laws.specs.Facet.{corner_numbers}
use Rattle.geo_laws.specs.Mesh.{ends, PairwiseProperlyMet}
use Rattle.geo_laws.specs.declared.complex.Piece.{Piece}
use Rattle.geo_laws.specs.declared.complex.FacetTriangle.{FacetTriangle}
use Rattle.simplex_meets.specs.declared.complex_parts.Compared.TheVariants.{WithTriangle}
use Rattle.simplex_meets.specs.declared.complex_parts.Part.{Part}
use Rattle.simplex_meets.specs.declared.complex_parts.Part.TheVariants.{Triangle, Segment}
use Rattle.simplex_meets.specs.declared.crossing.PlaneFault.{PlaneFault}
use Rattle.simplex_meets.specs.declared.crossing.PlaneFault.TheVariants.{Crossing, NoMemory}
use Rattle.simplex_meets.specs.Parts.{lies_in_plane}
use Rattle.simplex_meets.specs.Pairs.{IsFirstPair, IsMarked}

-- the triangles, and after them the pieces
abbrev pub parts_in : List FacetTriangle → List Piece → List Part
parts_in ts pieces = map Triangle ts ++ map Segment pieces

-- the triangles are properly met, and so is each with each piece
pub record AreTrianglesMet (ps : List Point) (ts : List FacetTriangle) (pieces : List Piece) : Type 0 where
  pub triangles_meet : PairwiseProperlyMet ps (map corner_numbers ts)
  pub triangles_meet_pieces : All (λ t. All (λ p. ProperlyMet ps (corner_numbers t) (ends p)) pieces) ts

-- any two marked triangles are properly met, and each marked triangle with each piece
pub record AreKnownMet (ps : List Point) (ts : List FacetTriangle) (pieces : List Piece) (marks : List Bool) : Type 0 where
  pub triangles_meet : (i j : ℕ) (d : FacetTriangle) → i < j → j < length ts → IsMarked marks i → IsMarked marks j
      → ProperlyMet ps (corner_numbers (slice_index_or ts i d)) (corner_numbers (slice_index_or ts j d))
  pub triangles_meet_pieces : (i j : ℕ) (d : FacetTriangle) (p : Piece) → i < length ts → j < length pieces → IsMarked marks i
      → ProperlyMet ps (corner_numbers (slice_index_or ts i d)) (ends (slice_index_or pieces j p))

-- any two triangles of one facet are properly met, and each triangle with each piece in its plane
pub record AreFlatMet (ps : List Point) (ts : List FacetTriangle) (pieces : List Piece) : Type 0 where
  pub triangles_meet : (i j : ℕ) (d : FacetTriangle) → i < j → j < length ts
      → (slice_index_or ts i d).facet ≡ (slice_index_or ts j d).facet
      → ProperlyMet ps (corner_numbers (slice_index_or ts i d)) (corner_numbers (slice_index_or ts j d))
  pub triangles_meet_pieces : (i j : ℕ) (d : FacetTriangle) (p : Piece) → i < length ts → j < length pieces
      → IsTrue (lies_in_plane ps (slice_index_or ts i d) (slice_index_or pieces j p))
      → ProperlyMet ps (corner_numbers (slice_index_or ts i d)) (ends (slice_index_or pieces j p))

-- the two are the first of the triangles and pieces that are not properly met, by the place of the first and then by that of the second.
-- Two pieces do not count
pub record IsFirstCrossing (ps : List Point) (ts : List FacetTriangle) (pieces : List Piece) (one two : Part) : Type 0 where
  pub i : ℕ
  pub j : ℕ
  pub one_is : (d : Part) → slice_index_or (parts_in ts pieces) i d ≡ one
  pub two_is : (d : Part) → slice_index_or (parts_in ts pieces) j d ≡ two
  pub first : IsFirstPair WithTriangle ps (parts_in ts pieces) i j

abbrev pub IsPlaneFault : List Point → List FacetTriangle → List Piece → PlaneFault → Type 0
IsPlaneFault ps ts pieces (Crossing one two) = IsFirstCrossing ps ts pieces one two
IsPlaneFault ps ts pieces NoMemory = ⊤

-- the answer says whether they are properly met, or which two are not
abbrev pub CrossesSo : List Point → List FacetTriangle → List Piece → Result (Unit {0}) PlaneFault → Type 0
CrossesSo ps ts pieces result = MatchResult result (λ _. AreTrianglesMet ps ts pieces) (IsPlaneFault ps ts pieces)
