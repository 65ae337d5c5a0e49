-- The sides of facets that may be joined, and those with the same ends.
use Rattle.std.specs.Prelude.{◌≡◌, ◌≢◌, ℕ, ◌<◌, ◌==◌, ◌&&◌, Bool, min, max, Option, Some, None, List, length, get_or, Contains}
use Rattle.geo_laws.specs.Segment.{piece, sides}
use Rattle.geo_laws.specs.Complex.{Complex}
use Rattle.geo_laws.specs.declared.complex.Piece.{Piece}
use Rattle.merged_facets.specs.Merged.{only_polygon, facet_at}
use Rattle.merged_facets.specs.declared.sides.FacetSide.{FacetSide}
use Rattle.merged_facets.specs.declared.sides.Ends.{Ends}

abbrev pub facet_side : ℕ → Piece → FacetSide
facet_side f s = record { facet = f; side = s }

abbrev pub ends_of : Piece → Ends
ends_of s = record { low = min s.a s.b; high = max s.a s.b }

-- the side is one of its facet's polygon
pub record IsFacetSideOf (c : Complex) (e : FacetSide) : Type 0 where
  pub there : e.facet < length c.facets
  pub side_of : Contains (sides (only_polygon (facet_at c e.facet))) e.side

-- two sides of facets with the same ends
pub record IsPair (c : Complex) (x y : FacetSide) : Type 0 where
  pub first : IsFacetSideOf c x
  pub second : IsFacetSideOf c y
  pub same : ends_of y.side ≡ ends_of x.side

-- the list has the sides of the facets below n
pub record AreSidesBelow (c : Complex) (n : ℕ) (list : List FacetSide) : Type 0 where
  pub each : (e : FacetSide) → Contains list e → IsFacetSideOf c e
  pub all : (f : ℕ) (s : Piece) → f < n → Contains (sides (only_polygon (facet_at c f))) s → Contains list (facet_side f s)

-- the list has the sides of all facets
abbrev pub AreFacetSidesOf : Complex → List FacetSide → Type 0
AreFacetSidesOf c list = AreSidesBelow c (length c.facets) list

-- the ends of the side at a place
abbrev pub ends_at : List FacetSide → ℕ → Ends
ends_at list i = ends_of (get_or list i (facet_side 0 (piece 0 0 0))).side

abbrev pub is_alike : Ends → Ends → Bool
is_alike p q = p.low == q.low && p.high == q.high

-- the last place before i at which the side has the ends
abbrev pub IsLastBefore : List FacetSide → ℕ → Ends → Option ℕ → Type 0
IsLastBefore list i ends None = (j : ℕ) → j < i → ends_at list j ≢ ends
IsLastBefore list i ends (Some j) = (j < i) × (ends_at list j ≡ ends) × ((k : ℕ) → j < k → k < i → ends_at list k ≢ ends)

-- for each place the last one before it with the same ends
pub record AreEarlierBelow (list : List FacetSide) (n : ℕ) (earlier : List (Option ℕ)) : Type 0 where
  pub long : length earlier ≡ n
  pub last : (i : ℕ) → i < n → IsLastBefore list i (ends_at list i) (get_or earlier i None)

abbrev pub AreEarlier : List FacetSide → List (Option ℕ) → Type 0
AreEarlier list earlier = AreEarlierBelow list (length list) earlier
