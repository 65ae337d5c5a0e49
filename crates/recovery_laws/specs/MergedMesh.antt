-- From a complex with merged facets to its mesh.
use Rattle.std.specs.Prelude.{◌≡◌, ◌⊎◌, ℕ, ◌<◌, Bool, true, false, Some, List, map, length, All, Any, Contains}
use Rattle.sign_predicates.specs.Point.{Point, RationalPoint, EachRational}
use Rattle.sign_predicates.specs.Orientation.{InClosed}
use Rattle.geo_laws.specs.Delaunay.{corners, delaunay_rows, numbers_below, HasDistinctPoints}
use Rattle.geo_laws.specs.Segment.{pieces, is_side, protect, Protected}
use Rattle.geo_laws.specs.Facet.{Facet, plane, corner_numbers, facet_triangles}
use Rattle.geo_laws.specs.Complex.{Complex}
use Rattle.geo_laws.specs.Mesh.{PairwiseProperlyMet, ends, IsMesh}
use Rattle.geo_laws.specs.Path.{Carving}
use Rattle.geo_laws.specs.Simplex.{ProperlyMet}
use Rattle.geo_laws.specs.declared.tetrahedra.Tet.{Tet}
use Rattle.geo_laws.specs.declared.complex.Piece.{Piece}
use Rattle.geo_laws.specs.declared.complex.FacetTriangle.{FacetTriangle}
use Rattle.facet_laws.specs.Region.{CoversBounded}
use Rattle.complex_laws.specs.SoundComplex.{IsSoundFacet, HasTriangles}
use Rattle.refill_laws.specs.Refill.{IsRefill}
use Rattle.segment_protect.specs.Spots.{HasTwoEnds}
use Rattle.segment_protect.specs.Ends.{IsStart, CanSplit}
use Rattle.complex_laws.specs.ComplexMesh.{IsUntangled, IsCarved}
use Rattle.complex_laws.specs.Sides.{IsInnerOf}
use Rattle.merged_facets.specs.Merged.{IsMerging, merged_facet, merged_segments}
use Rattle.merged_facets.specs.Facets.{HasCornersOn, AreFlat}
use Rattle.recovery_laws.specs.Recovery.{IsRecovery}

-- the merged facets of a complex, by their numbers
abbrev pub merged_facets : (ℕ → ℕ) → Complex → List Facet
merged_facets group c = map (merged_facet group c) (numbers_below (length c.facets))

-- nothing is merged: each facet is its own group, and no side is inner
pub record IsUnmerged (group : ℕ → ℕ) (inner : ℕ → Piece → Bool) : Type 0 where
  pub alone : (f : ℕ) → group f ≡ f
  pub none : (f : ℕ) (s : Piece) → inner f s ≡ false

-- the groups and inner sides are those that merging finds, or nothing is merged
abbrev pub IsGrouping : List Point → Complex → (ℕ → ℕ) → (ℕ → Piece → Bool) → Type 0
IsGrouping ps c group inner = IsMerging ps c group inner ⊎ IsUnmerged group inner

-- A merged facet is sound with the segments, which are the sides that are not inner
abbrev pub MergedSoundLaw : Type 0
MergedSoundLaw = (ps : List Point) (c : Complex) (group : ℕ → ℕ) (inner : ℕ → Piece → Bool) → HasDistinctPoints ps → HasCornersOn ps c
    → AreFlat ps c → IsGrouping ps c group inner
    → (k : ℕ) → IsSoundFacet ps (merged_segments inner c) (merged_facet group c k)

-- These segments have two ends each
abbrev pub MergedEndsLaw : Type 0
MergedEndsLaw = (ps : List Point) (c : Complex) (inner : ℕ → Piece → Bool) → HasCornersOn ps c
    → All (HasTwoEnds (length ps)) (merged_segments inner c)

-- The points `ps` and the complex that are given, with flat facets; its groups and inner sides; the points `qs` and the pieces `rest` with
-- which the protection of the segments ends; the merged facets' triangles, pairwise properly met
pub record IsMergedRecovery (depth splits : ℕ) (ps : List Point) (c : Complex) (group : ℕ → ℕ) (inner : ℕ → Piece
    → Bool) (qs : List Point) (rest : List Piece) (ts : List FacetTriangle) : Type 0 where
  pub corners : HasCornersOn ps c
  pub flat : AreFlat ps c
  pub grouping : IsGrouping ps c group inner
  pub start : IsStart ps (pieces ps (merged_segments inner c)) depth
  pub can_split : CanSplit ps (pieces ps (merged_segments inner c))
  pub ends : protect depth splits ps (pieces ps (merged_segments inner c)) ≡ Protected qs rest
  pub has_triangles : HasTriangles qs (merged_facets group c) ts
  pub met : PairwiseProperlyMet qs (map corner_numbers ts)

-- Such a complex can be recovered by its merged facets
abbrev pub MergedRecoveryLaw : Type 0
MergedRecoveryLaw = (depth splits : ℕ) (ps : List Point) (c : Complex) (group : ℕ → ℕ) (inner : ℕ → Piece → Bool)
    (qs : List Point) (rest : List Piece) (ts : List FacetTriangle)
    → IsMergedRecovery depth splits ps c group inner qs rest ts
    → IsRecovery depth splits ps (merged_segments inner c) (merged_facets group c) qs rest ts

-- Where no two facets cross a Delaunay tetrahedron, the tetrahedra that carving keeps of the refilled list are a mesh
-- of the complex
abbrev pub MergedMeshLaw : Type 0
MergedMeshLaw = (depth splits : ℕ) (ps : List Point) (c : Complex) (group : ℕ → ℕ) (inner : ℕ → Piece → Bool)
    (qs : List Point) (rest : List Piece) (ts : List FacetTriangle)
    → IsMergedRecovery depth splits ps c group inner qs rest ts → IsUntangled qs ts
    → (carving : Carving) (holes : List RationalPoint) (refilled part : List Tet) → IsRefill qs ts (delaunay_rows qs) refilled
    → IsCarved carving qs ts holes refilled part → IsMesh carving qs ts holes part

-- And each piece that is properly met with all triangles is a side of it where an inner point of the piece lies in it
abbrev pub MergedPieceLaw : Type 0
MergedPieceLaw = (depth splits : ℕ) (ps : List Point) (c : Complex) (group : ℕ → ℕ) (inner : ℕ → Piece → Bool)
    (qs : List Point) (rest : List Piece) (ts : List FacetTriangle)
    → IsMergedRecovery depth splits ps c group inner qs rest ts → IsUntangled qs ts
    → (carving : Carving) (holes : List RationalPoint) (refilled part : List Tet) → IsRefill qs ts (delaunay_rows qs) refilled
    → IsCarved carving qs ts holes refilled part
    → (p : Piece) → Contains rest p → All (λ t. ProperlyMet qs (corner_numbers t) (ends p)) ts
    → EachRational (λ x. IsInnerOf qs p x → Any (λ t. InClosed (corners qs t) x) part → is_side part p ≡ true)

-- The triangles of each merged facet that has a plane lie in its region and cover it but for the pieces of the segments, each point once
abbrev pub MergedCoverLaw : Type 0
MergedCoverLaw = (depth splits : ℕ) (ps : List Point) (c : Complex) (group : ℕ → ℕ) (inner : ℕ → Piece → Bool)
    (qs : List Point) (rest : List Piece) (ts : List FacetTriangle)
    → IsMergedRecovery depth splits ps c group inner qs rest ts → (k : ℕ) → k < length c.facets → (p : ℕ × ℕ × ℕ)
    → plane qs (merged_facet group c k) ≡ Some p
    → CoversBounded qs (merged_segments inner c) (merged_facet group c k) (facet_triangles qs k (merged_facet group c k))
