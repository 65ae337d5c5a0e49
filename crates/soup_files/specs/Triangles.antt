-- Facets by the places of the points of their corners, as they are found one after another.
use Rattle.std.specs.Prelude.{◌≡◌, List, [], ◌∷◌, map, Result, Ok}
use Rattle.tet_text.specs.declared.fault.TextFault.{TextFault}
use Rattle.tet_text.specs.Reading.{◌>>=◌}
use Rattle.grid_coords.specs.declared.points.DecimalPoint.{DecimalPoint}
use Rattle.plc_files.specs.declared.parts.CornerText.{CornerText}
use Rattle.plc_files.specs.declared.parts.PolygonText.{PolygonText}
use Rattle.soup_files.specs.declared.stl.PlacedCorner.{PlacedCorner}
use Rattle.soup_files.specs.declared.stl.Triangle.{Triangle}
use Rattle.soup_files.specs.declared.stl_facet.StlFacet.{StlFacet}
use Rattle.soup_files.specs.Vertices.{with_vertex, vertex_place, distinct_vertices}
use Rattle.soup_files.specs.Stl.{vertices_of, triangle_in}

abbrev pub placed_corner : PlacedCorner → CornerText
placed_corner p = record { number = p.place; line = p.line }

abbrev pub triangle_polygon : Triangle → PolygonText
triangle_polygon t = record { line = t.line; corners = placed_corner t.a ∷ placed_corner t.b ∷ placed_corner t.c ∷ [] }

-- the points with the corners of a facet, put in one after another
abbrev pub with_corners : StlFacet → List DecimalPoint → List DecimalPoint
with_corners f points = with_vertex (with_vertex (with_vertex points f.a) f.b) f.c

-- each corner is named by the place that its point has, or gets, when it is put in
pub record IsPlacedBy (f : StlFacet) (old : List DecimalPoint) (t : Triangle) (new : List DecimalPoint) : Type 0 where
  pub new_is : new ≡ with_corners f old
  pub line : t.line ≡ f.line
  pub a : placed_corner t.a ≡ record { number = vertex_place old f.a; line = f.a.line }
  pub b : placed_corner t.b ≡ record { number = vertex_place (with_vertex old f.a) f.b; line = f.b.line }
  pub c : placed_corner t.c ≡ record { number = vertex_place (with_vertex (with_vertex old f.a) f.b) f.c; line = f.c.line }

-- the distinct corners of the facets that are read, and the facets by these
abbrev pub placed_facets : {R : Type 0} → Result (List StlFacet × R) TextFault
    → Result ((List DecimalPoint × List PolygonText) × R) TextFault
placed_facets read = read >>= λ x. Ok (
  (
    distinct_vertices (vertices_of x.0),
    map
        (triangle_in (distinct_vertices (vertices_of x.0))) x.0,
  ),
  x.1,
)
