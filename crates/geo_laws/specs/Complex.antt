-- Piecewise linear complexes: polygons, the facets that they bound, hole points and regions.
use Rattle.std.specs.Prelude.{◌≡◌, ℕ, ◌+◌, ◌≤◌, ℤ, List, [], ◌∷◌, ◌++◌, map, length, slice_range, Option, ◌<◌, All}
use Rattle.sign_predicates.specs.Point.{RationalPoint, Point}
use Rattle.geo_laws.specs.Facet.{Facet as FlatFacet}
use Rattle.geo_laws.specs.declared.complex.Facet.{Facet}
use Rattle.geo_laws.specs.declared.complex.Region.{Region}

-- a polygon: the numbers of its corners, in order, and the line of the text that states it
pub record Polygon : Type 0 where
  pub corners : List ℕ
  pub line : ℕ

-- polygons in file order, facets that have them from the first to before the past, hole points, and regions
pub record Complex : Type 0 where
  pub polygons : List Polygon
  pub facets : List Facet
  pub holes : List RationalPoint
  pub regions : List Region

-- the corners of all polygons are numbers of points
abbrev pub HasCornersOf : List Point → Complex → Type 0
HasCornersOf ps c = All (λ p. All (λ i. i < length ps) p.corners) c.polygons

-- the polygons as lists of corners
abbrev pub corner_lists : List Polygon → List (List ℕ)
corner_lists ps = map (λ p. p.corners) ps

-- a facet, with its polygons
abbrev pub flat_facet : List Polygon → Facet → FlatFacet
flat_facet ps f = record { polygons = corner_lists (slice_range ps f.first f.past); holes = f.holes }

-- the facets of a complex, with their polygons
abbrev pub facets : Complex → List FlatFacet
facets c = map (flat_facet c.polygons) c.facets

-- the first facet has the polygons from this one on, each further one those behind the facet before, and the last ends where the polygons
-- end
abbrev pub AreFollowing : ℕ → List Facet → ℕ → Type 0
AreFollowing from [] end = from ≡ end
AreFollowing from (f ∷ fs) end = (f.first ≡ from) × (f.first ≤ f.past) × AreFollowing f.past fs end

-- ---- a complex, part by part

-- the last item changed
abbrev pub change_last : {X : Type 0} → (X → X) → List X → List X
change_last change [] = []
change_last change (x ∷ []) = change x ∷ []
change_last change (x ∷ y ∷ ys) = x ∷ change_last change (y ∷ ys)

abbrev pub empty_complex : Complex
empty_complex = record { polygons = []; facets = []; holes = []; regions = [] }

-- with a facet that has no polygon yet
abbrev pub with_facet : Option ℤ → Complex → Complex
with_facet marker c =
    record c { facets = c.facets ++ record { first = length c.polygons; past = length c.polygons; holes = []; marker = marker } ∷ [] }

-- with a polygon of the last facet
abbrev pub with_polygon : List ℕ → ℕ → Complex → Complex
with_polygon corners line c = record c {
  polygons = c.polygons ++ record { corners = corners; line = line } ∷ [];
  facets = change_last (λ f. record f { past = f.past + 1 }) c.facets;
}

-- with a hole point of the last facet
abbrev pub with_facet_hole : RationalPoint → Complex → Complex
with_facet_hole at c = record c { facets = change_last (λ f. record f { holes = f.holes ++ at ∷ [] }) c.facets }

abbrev pub with_hole : RationalPoint → Complex → Complex
with_hole at c = record c { holes = c.holes ++ at ∷ [] }

abbrev pub with_region : RationalPoint → List ℕ → Complex → Complex
with_region at attribute c = record c { regions = c.regions ++ record { at = at; attribute = attribute } ∷ [] }
