-- How a complex is stored: the corners of all polygons in one list.
use Rattle.std.specs.Prelude.{◌<◌, ◌≤◌, ◌^◌, ℕ, List, map, length, slice_range, All}
use Rattle.geo_laws.specs.Complex.{Polygon, AreFollowing}
use Rattle.geo_laws.specs.declared.complex.Facet.{Facet}
use Rattle.geo_laws.specs.declared.complex.Region.{Region}
use Rattle.geo_laws.specs.declared.complex.Span.{Span}

-- a polygon has the corners from its first to before its past
abbrev pub polygon_at : List ℕ → Span → Polygon
polygon_at corners s = record { corners = slice_range corners s.first s.past; line = s.line }

abbrev pub polygons_at : List ℕ → List Span → List Polygon
polygons_at corners spans = map (polygon_at corners) spans

-- the span lies within `count` corners
pub record IsWithin (count : ℕ) (s : Span) : Type 0 where
  pub order : s.first ≤ s.past
  pub end : s.past ≤ count

-- each polygon's corners are there, the facets have all polygons in order, and each of these can be named by 32 bits
pub record IsStored (corners : List ℕ) (spans : List Span) (facets : List Facet) (regions : List Region) : Type 0 where
  pub within : All (IsWithin (length corners)) spans
  pub following : AreFollowing 0 facets (length spans)
  pub few_polygons : length spans < 2 ^ 32
  pub few_facets : length facets < 2 ^ 32
  pub few_regions : length regions < 2 ^ 32
