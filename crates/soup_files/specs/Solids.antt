-- ASCII `.stl` files of one or more solids, one after another.
use Rattle.std.specs.Prelude.{ℕ, zero, suc, ◌+◌, ℤ, pos, ◌==◌, Bool, true, false, List, [], ◌∷◌, length, map, codes, Option, Some, None, Result, Ok, Err, if◌then◌else◌}
use Rattle.tet_text.specs.declared.fault.TextFault.{TextFault}
use Rattle.tet_text.specs.Faults.{ended}
use Rattle.tet_text.specs.Reading.{◌>>=◌, line_at}
use Rattle.grid_coords.specs.declared.points.DecimalPoint.{DecimalPoint}
use Rattle.plc_files.specs.declared.parts.PolygonText.{PolygonText}
use Rattle.plc_files.specs.Facet.{Lines}
use Rattle.plc_files.specs.Text.{Plc}
use Rattle.soup_files.specs.declared.fields.Grammar.TheVariants.{Wide}
use Rattle.soup_files.specs.declared.solids.SolidTriangle.{SolidTriangle}
use Rattle.soup_files.specs.declared.stl_facet.StlFacet.{StlFacet}
use Rattle.soup_files.specs.Keyword.{keyword_at}
use Rattle.soup_files.specs.Stl.{solid_line, more_facets, ascii_facet_of, vertices_of, triangle_in}
use Rattle.soup_files.specs.Surface.{marked_face, nodes_at}
use Rattle.soup_files.specs.Triangles.{triangle_polygon}
use Rattle.soup_files.specs.Vertices.{distinct_vertices}

-- a facet, and the number of its solid
pub record SolidFacet : Type 0 where
  pub solid : ℕ
  pub facet : StlFacet

-- ---- the grammar

-- a further solid begins here, or the text ends
unfoldable pub next_solid : Lines → Result (Bool × Lines) TextFault
next_solid [] = Ok (false, [])
next_solid (line ∷ lines) = do
  _ ← keyword_at Wide (codes "solid") line.line line.fields
  Ok (true, lines)

-- the facets from here to the end of the text, where the solid that is open has this number, and the number of the last solid; each facet
-- and each end of a solid has a line of its own, of which there are at most `most`
unfoldable pub solids_of : ℕ → ℕ → ℕ → Lines → Result (List SolidFacet × ℕ) TextFault
solids_of zero solid total lines = Err (ended (total + 1))
solids_of (suc most) solid total lines = do
  line ← line_at total lines
  more ← more_facets Wide line.0
  if more then (do
    facet ← ascii_facet_of Wide total line.0.line line.1
    others ← solids_of most solid total facet.1
    Ok (record { solid = solid; facet = facet.0 } ∷ others.0, others.1)) else (do
      next ← next_solid line.1
      if next.0 then solids_of most (solid + 1) total next.1 else Ok ([], solid))

-- ---- what is read

-- the distinct corners of all facets
abbrev pub solid_points : List SolidFacet → List DecimalPoint
solid_points facets = distinct_vertices (vertices_of (map (λ f. f.facet) facets))

-- a facet by these points, with the number of its solid
abbrev pub solid_face_in : List DecimalPoint → SolidFacet → ℕ × PolygonText
solid_face_in points f = (f.solid, triangle_in points f.facet)

-- the number of the solid, unless there is one solid alone
abbrev pub solid_marker : ℕ → ℕ → Option ℤ
solid_marker count solid = if count == 1 then None else Some (pos solid)

-- the complex of these points, and of faces with the numbers of their solids, of which there are `count`
abbrev pub solids_surface : ℕ → List DecimalPoint → List (ℕ × PolygonText) → Plc
solids_surface count points faces = record {
  nodes = Some (nodes_at points);
  facets = map (λ f. marked_face (solid_marker count f.0) f.1) faces;
  holes = [];
  regions = [];
}

-- a whole text, with its number of lines
unfoldable pub wide_stl_of : ℕ → Lines → Result Plc TextFault
wide_stl_of total lines = do
  solid ← solid_line Wide total lines
  read ← solids_of (length solid.1) 1 total solid.1
  Ok (solids_surface read.1 (solid_points read.0) (map (solid_face_in (solid_points read.0)) read.0))

-- ---- as a loop finds it

abbrev pub solid_polygon : SolidTriangle → ℕ × PolygonText
solid_polygon t = (t.solid, triangle_polygon t.triangle)

-- the distinct corners of the facets that are read, and the facets by these
abbrev pub placed_solids : Result (List SolidFacet × ℕ) TextFault → Result ((List DecimalPoint × List (ℕ × PolygonText)) × ℕ) TextFault
placed_solids read = read >>= λ x. Ok ((solid_points x.0, map (solid_face_in (solid_points x.0)) x.0), x.1)
