-- A complex whose corners name the points that are kept where equal ones are folded.
use Rattle.std.specs.Prelude.{◌≡◌, ℕ, ◌<◌, ℤ, List, [], length, All, map, drop, take, slice_index, Option}
use Rattle.sign_predicates.specs.Point.{RationalPoint}
use Rattle.geo_laws.specs.Complex.{Polygon, Complex, AreFollowing, with_facet}
use Rattle.geo_laws.specs.declared.complex.Facet.{Facet}
use Rattle.plc_files.specs.Appending.{plus_polygons, plus_facet_holes}

-- each corner of each polygon is the place of one of *n* points
abbrev pub HasCornersBelow : ℕ → Complex → Type 0
HasCornersBelow count c = All (λ p. All (λ i. i < count) p.corners) c.polygons

-- the polygon, with the kept point in place of each listed one
abbrev pub folded_polygon : List ℕ → Polygon → Polygon
folded_polygon folded p = record { corners = map (slice_index folded) p.corners; line = p.line }

-- the complex with its polygons so
abbrev pub folded_complex : List ℕ → Complex → Complex
folded_complex folded c = record c { polygons = map (folded_polygon folded) c.polygons }

-- ---- the parts of the way

-- the polygons from one to before another
abbrev pub polygons_between : ℕ → ℕ → List Polygon → List Polygon
polygons_between first past ps = drop first (take past ps)

-- with a further facet that has these polygons, hole points and marker
abbrev pub plus_whole_facet : List Polygon → List RationalPoint → Option ℤ → Complex → Complex
plus_whole_facet ps hs marker c = plus_facet_holes hs (plus_polygons ps (with_facet marker c))

-- with a facet of another complex, its polygons folded
abbrev pub plus_folded : List ℕ → List Polygon → Facet → Complex → Complex
plus_folded folded ps f = plus_whole_facet (map (folded_polygon folded) (polygons_between f.first f.past ps)) f.holes f.marker

-- the first facets of a complex, with their polygons folded; the facets behind them begin where these polygons end
pub record IsFoldedTo (folded : List ℕ) (c : Complex) (i : ℕ) (made : Complex) : Type 0 where
  pub facets : made.facets ≡ take i c.facets
  pub polygons : made.polygons ≡ map (folded_polygon folded) (take (length made.polygons) c.polygons)
  pub following : AreFollowing (length made.polygons) (drop i c.facets) (length c.polygons)
  pub no_holes : made.holes ≡ []
  pub no_regions : made.regions ≡ []
