-- Merged facets are flat, and bounded by the sides that are not inner.
use Rattle.std.specs.Prelude.{◌≡◌, ℕ, ◌<◌, Bool, IsTrue, List, length, Contains}
use Rattle.sign_predicates.specs.Point.{Point}
use Rattle.geo_laws.specs.Delaunay.{HasDistinctPoints}
use Rattle.geo_laws.specs.Segment.{sides}
use Rattle.geo_laws.specs.Facet.{IsFlat, all_corners, areas}
use Rattle.geo_laws.specs.Complex.{Complex}
use Rattle.geo_laws.specs.declared.complex.Piece.{Piece}
use Rattle.facet_laws.specs.Inner.{IsInnerSide}
use Rattle.facet_laws.specs.Region.{IsBounded}
use Rattle.merged_facets.specs.Merged.{facet_at, IsMerging, merged_facet, merged_segments}

-- the corners of the facets are numbers of points
abbrev pub HasCornersOn : List Point → Complex → Type 0
HasCornersOn ps c = (f i : ℕ) → f < length c.facets → Contains (all_corners (facet_at c f)) i → i < length ps

-- the facets as read are flat
abbrev pub AreFlat : List Point → Complex → Type 0
AreFlat ps c = (f : ℕ) → f < length c.facets → IsFlat ps (facet_at c f)

-- A side that merging found inner in a facet is inner in the merged facet: a polygon of another member has it too, on the other hand
abbrev pub InnerLaw : Type 0
InnerLaw = (ps : List Point) (c : Complex) (group : ℕ → ℕ) (inner : ℕ → Piece → Bool) → HasDistinctPoints ps → HasCornersOn ps c
    → IsMerging ps c group inner
    → (f : ℕ) (q : List ℕ) (s : Piece) → f < length c.facets → Contains (areas (facet_at c f)) q → Contains (sides q) s
    → IsTrue (inner f s) → IsInnerSide ps (merged_facet group c (group f)) q s

-- A merged facet is flat where the facets as read are
abbrev pub MergedFlatLaw : Type 0
MergedFlatLaw = (ps : List Point) (c : Complex) (group : ℕ → ℕ) (inner : ℕ → Piece → Bool) → AreFlat ps c → IsMerging ps c group inner
    → (k : ℕ) → IsFlat ps (merged_facet group c k)

-- and each side of its polygons is one of the segments or inner
abbrev pub MergedBoundedLaw : Type 0
MergedBoundedLaw = (ps : List Point) (c : Complex) (group : ℕ → ℕ) (inner : ℕ → Piece → Bool) → HasDistinctPoints ps → HasCornersOn ps c
    → IsMerging ps c group inner
    → (k : ℕ) → IsBounded ps (merged_segments inner c) (merged_facet group c k)

-- Merging finds one thing: two of its findings have the same segments and the same merged facets
abbrev pub OneMergingLaw : Type 0
OneMergingLaw = (ps : List Point) (c : Complex) (group : ℕ → ℕ) (inner : ℕ → Piece → Bool) (other : ℕ → ℕ) (outer : ℕ → Piece → Bool)
    → IsMerging ps c group inner → IsMerging ps c other outer
    → (merged_segments inner c ≡ merged_segments outer c) × ((k : ℕ) → merged_facet group c k ≡ merged_facet other c k)
