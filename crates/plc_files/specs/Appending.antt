-- A complex with further parts, as they are appended one after the other.
use Rattle.std.specs.Prelude.{◌+◌, List, ◌++◌, length}
use Rattle.sign_predicates.specs.Point.{RationalPoint}
use Rattle.geo_laws.specs.declared.complex.Region.{Region}
use Rattle.geo_laws.specs.Complex.{Polygon, Complex, change_last}

-- with further polygons of the last facet
abbrev pub plus_polygons : List Polygon → Complex → Complex
plus_polygons ps c = record c { polygons = c.polygons ++ ps; facets = change_last (λ f. record f { past = f.past + length ps }) c.facets }

-- with further hole points of the last facet
abbrev pub plus_facet_holes : List RationalPoint → Complex → Complex
plus_facet_holes hs c = record c { facets = change_last (λ f. record f { holes = f.holes ++ hs }) c.facets }

abbrev pub plus_holes : List RationalPoint → Complex → Complex
plus_holes hs c = record c { holes = c.holes ++ hs }

abbrev pub plus_regions : List Region → Complex → Complex
plus_regions rs c = record c { regions = c.regions ++ rs }
