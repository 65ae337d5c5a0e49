-- The ASCII `.stl` files: triangles, each with the coordinates of its corners.
use Rattle.std.specs.Prelude.{ℕ, zero, suc, ◌+◌, Bool, true, false, List, [], ◌∷◌, length, map, codes, Result, Ok, Err, if◌then◌else◌}
use Rattle.std.specs.List.{flat_map}
use Rattle.tet_text.specs.declared.fault.TextFault.{TextFault}
use Rattle.tet_text.specs.Lines.{ContentLine}
use Rattle.tet_text.specs.Faults.{ended, bad_count}
use Rattle.tet_text.specs.Reading.{◌>>=◌, Fields, field_at, end_at, line_at, text_end_at}
use Rattle.grid_coords.specs.declared.points.DecimalPoint.{DecimalPoint}
use Rattle.plc_files.specs.declared.parts.CornerText.{CornerText}
use Rattle.plc_files.specs.declared.parts.PolygonText.{PolygonText}
use Rattle.plc_files.specs.Text.{Plc}
use Rattle.soup_files.specs.declared.stl_facet.StlFacet.{StlFacet}
use Rattle.soup_files.specs.declared.fields.Grammar.{Grammar}
use Rattle.soup_files.specs.declared.fields.Grammar.TheVariants.{Strict}
use Rattle.soup_files.specs.Keyword.{is_word, keyword_at}
use Rattle.soup_files.specs.OnLine.{on_line, last_word_at, last_place_at, word_of}
use Rattle.soup_files.specs.Vertices.{distinct_vertices, vertex_place}
use Rattle.soup_files.specs.Surface.{surface_of}
use Rattle.plc_files.specs.Facet.{Lines}

-- ---- the grammar

-- solid, and whatever stands behind it
unfoldable pub solid_line : Grammar → ℕ → Lines → Result (Unit {0} × Lines) TextFault
solid_line grammar total lines = do
  line ← line_at total lines
  _ ← keyword_at grammar (codes "solid") line.0.line line.0.fields
  Ok (tt, line.1)

-- normal, three fields of any kind, and the end of the line
unfoldable pub normal_at : Grammar → ℕ → Fields → Result (Unit {0}) TextFault
normal_at grammar line fields = do
  rest ← keyword_at grammar (codes "normal") line fields
  x ← field_at line rest.1
  y ← field_at line x.1
  z ← field_at line y.1
  end_at line z.1

-- facet normal .. begins a further facet, and endsolid, with whatever stands behind it, ends the facets
unfoldable pub more_facets : Grammar → ContentLine → Result Bool TextFault
more_facets grammar line = do
  first ← field_at line.line line.fields
  if is_word grammar (codes "endsolid") first.0 then Ok false else
      if is_word grammar (codes "facet") first.0 then (normal_at grammar line.line first.1 >>= λ _. Ok true) else Err (bad_count line.line)

-- outer loop
unfoldable pub loop_of : Grammar → ContentLine → Result (Unit {0}) TextFault
loop_of grammar line = do
  rest ← keyword_at grammar (codes "outer") line.line line.fields
  last_word_at grammar (codes "loop") line.line rest.1

-- vertex <x> <y> <z>
unfoldable pub vertex_of : Grammar → ContentLine → Result DecimalPoint TextFault
vertex_of grammar line = do
  rest ← keyword_at grammar (codes "vertex") line.line line.fields
  last_place_at line.line rest.1

-- the six lines behind the first line of a facet, whose number is this one
unfoldable pub ascii_facet_of : Grammar → ℕ → ℕ → Lines → Result (StlFacet × Lines) TextFault
ascii_facet_of grammar total first lines = do
  outer ← on_line (loop_of grammar) total lines
  a ← on_line (vertex_of grammar) total outer.1
  b ← on_line (vertex_of grammar) total a.1
  c ← on_line (vertex_of grammar) total b.1
  inner ← on_line (word_of grammar (codes "endloop")) total c.1
  last ← on_line (word_of grammar (codes "endfacet")) total inner.1
  Ok (record { line = first; a = a.0; b = b.0; c = c.0 }, last.1)

-- the facets up to the line that ends them, of which there are fewer than `most`
unfoldable pub ascii_facets_of : ℕ → ℕ → Lines → Result (List StlFacet × Lines) TextFault
ascii_facets_of zero total lines = Err (ended (total + 1))
ascii_facets_of (suc most) total lines = do
  line ← line_at total lines
  more ← more_facets Strict line.0
  if more then (do
    facet ← ascii_facet_of Strict total line.0.line line.1
    others ← ascii_facets_of most total facet.1
    Ok (facet.0 ∷ others.0, others.1)) else Ok ([], line.1)

-- ---- what is read

-- the corners of all facets, one after another
abbrev pub vertices_of : List StlFacet → List DecimalPoint
vertices_of facets = flat_map (λ f. f.a ∷ f.b ∷ f.c ∷ []) facets

-- a corner by the place of its point
abbrev pub stl_corner : List DecimalPoint → DecimalPoint → CornerText
stl_corner points p = record { number = vertex_place points p; line = p.line }

abbrev pub triangle_in : List DecimalPoint → StlFacet → PolygonText
triangle_in points f = record { line = f.line; corners = stl_corner points f.a ∷ stl_corner points f.b ∷ stl_corner points f.c ∷ [] }

-- the distinct corners are the points, and each facet is a triangle of these
abbrev pub triangles_of : List StlFacet → Plc
triangles_of facets = surface_of (distinct_vertices (vertices_of facets))
    (map (triangle_in (distinct_vertices (vertices_of facets))) facets)

-- a whole text, with its number of lines. Each facet has lines of its own, so that there are at most as many facets as
-- lines
unfoldable pub stl_of : ℕ → Lines → Result Plc TextFault
stl_of total lines = do
  solid ← solid_line Strict total lines
  facets ← ascii_facets_of (length solid.1) total solid.1
  _ ← text_end_at facets.1
  Ok (triangles_of facets.0)
