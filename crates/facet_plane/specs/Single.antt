-- Facets that are one polygon of three corners.
use Rattle.std.specs.Prelude.{ℕ, List, [], ◌∷◌}
use Rattle.geo_laws.specs.Facet.{Facet}
use Rattle.geo_laws.specs.declared.complex.FacetTriangle.{FacetTriangle}
use Rattle.facet_laws.specs.Sublist.{number_in_list}

-- the facet of one polygon with these corners, without hole points
abbrev pub three_cornered : ℕ × ℕ × ℕ → Facet
three_cornered p = record { polygons = (p.0 ∷ p.1 ∷ p.2 ∷ []) ∷ []; holes = [] }

-- the triangle of the first three numbers
abbrev pub first_triangle : ℕ → List ℕ → FacetTriangle
first_triangle facet ns = record { facet = facet; a = number_in_list ns 0; b = number_in_list ns 1; c = number_in_list ns 2 }
