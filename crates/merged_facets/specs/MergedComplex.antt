-- The complex of the merged facets, and how it is put together.
use Rattle.std.specs.Prelude.{◌≡◌, ◌≢◌, ℕ, ℤ, ◌+◌, ◌<◌, ◌≤◌, Option, Some, None, List, [], ◌++◌, map, length, get_or, slice_range, All, Contains}
use Rattle.sign_predicates.specs.Point.{RationalPoint}
use Rattle.geo_laws.specs.Delaunay.{numbers_below}
use Rattle.geo_laws.specs.Facet.{Facet}
use Rattle.geo_laws.specs.Complex.{Polygon, Complex, corner_lists, facets, AreFollowing, change_last}
use Rattle.merged_facets.specs.Merged.{merged_facet}

-- the markers of the facets
abbrev pub markers : Complex → List (Option ℤ)
markers c = map (λ f. f.marker) c.facets

-- A complex whose facet at each place is the merged one, with the polygons and hole points of its members, each polygon one of the complex
-- as read, and with the marker of the facet that was read there
pub record IsMergedComplex (group : ℕ → ℕ) (c d : Complex) : Type 0 where
  pub facets_are : facets d ≡ map (merged_facet group c) (numbers_below (length c.facets))
  pub markers_are : markers d ≡ markers c
  pub polygons : All (Contains c.polygons) d.polygons

-- ---- the members of groups, by their numbers below n

-- the first number from one on that is in the group, or none
abbrev pub IsFirstFrom : (ℕ → ℕ) → ℕ → ℕ → ℕ → Option ℕ → Type 0
IsFirstFrom group n k from None = (h : ℕ) → from ≤ h → h < n → group h ≢ k
IsFirstFrom group n k from (Some g) = (from ≤ g) × (g < n) × (group g ≡ k) × ((h : ℕ) → from ≤ h → h < g → group h ≢ k)

-- for each group its first member from one number on, and for each number from there on the next one of its group
pub record AreMemberChains (group : ℕ → ℕ) (n from : ℕ) (first next : List (Option ℕ)) : Type 0 where
  pub first_long : length first ≡ n
  pub next_long : length next ≡ n
  pub first_is : (k : ℕ) → k < n → IsFirstFrom group n k from (get_or first k None)
  pub next_is : (g : ℕ) → from ≤ g → g < n → IsFirstFrom group n (group g) (g + 1) (get_or next g None)

-- a list of n entries, all None
pub record AreNone (n : ℕ) (list : List (Option ℕ)) : Type 0 where
  pub long : length list ≡ n
  pub none : (k : ℕ) → get_or list k None ≡ None

-- ---- parts appended to the last facet

-- the facet with the polygons and hole points of another one behind its own
abbrev pub with_parts : Facet → Facet → Facet
with_parts g f = record { polygons = f.polygons ++ g.polygons; holes = f.holes ++ g.holes }

-- the polygons from one place to before another, and no hole point
abbrev pub with_polygons : List Polygon → ℕ → ℕ → Facet
with_polygons ps first past = record { polygons = corner_lists (slice_range ps first past); holes = [] }

-- hole points, and no polygon
abbrev pub with_holes : List RationalPoint → Facet
with_holes hs = record { polygons = []; holes = hs }

-- a complex that is made of some polygons: its facets have them one after the other
pub record IsMaking (polygons : List Polygon) (d : Complex) : Type 0 where
  pub following : AreFollowing 0 d.facets (length d.polygons)
  pub among : All (Contains polygons) d.polygons

-- the new complex has the parts behind those of the old one's last facet
pub record HasParts (polygons : List Polygon) (old : Complex) (parts : Facet) (new : Complex) : Type 0 where
  pub making : IsMaking polygons new
  pub count : length new.facets ≡ length old.facets
  pub markers_are : markers new ≡ markers old
  pub facets_are : facets new ≡ change_last (with_parts parts) (facets old)
