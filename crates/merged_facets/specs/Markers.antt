-- A merged facet has one marker, and its number is the least of its group.
use Rattle.std.specs.Prelude.{◌≡◌, ◌≢◌, ◌<◌, ℕ, Bool, List, length}
use Rattle.sign_predicates.specs.Point.{Point}
use Rattle.geo_laws.specs.Complex.{Complex}
use Rattle.geo_laws.specs.declared.complex.Piece.{Piece}
use Rattle.merged_facets.specs.Merged.{IsMerging, marker_at, merged_facet, no_facet}

-- Each facet has the marker of the one whose number its group has
abbrev pub OneMarkerLaw : Type 0
OneMarkerLaw = (ps : List Point) (c : Complex) (group : ℕ → ℕ) (inner : ℕ → Piece → Bool) → IsMerging ps c group inner
    → (f : ℕ) → f < length c.facets → marker_at c f ≡ marker_at c (group f)

-- A number that is not the least of its group has no merged facet
abbrev pub LeastNumberLaw : Type 0
LeastNumberLaw = (ps : List Point) (c : Complex) (group : ℕ → ℕ) (inner : ℕ → Piece → Bool) → IsMerging ps c group inner
    → (k : ℕ) → k < length c.facets → group k ≢ k → merged_facet group c k ≡ no_facet
