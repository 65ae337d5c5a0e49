-- A mesh and queries measured from the middle of the mesh's box, where its points are off the grid from zero.
use Rattle.std.specs.Prelude.{List, Option, Some, None, Result, Ok, Err}
use Rattle.grid_coords.specs.Origins.{origin_of}
use Rattle.grid_coords.specs.declared.grid.Grid.{Grid}
use Rattle.grid_coords.specs.declared.grid.Range.{Range}
use Rattle.grid_coords.specs.declared.origin.WholePoint.{WholePoint}
use Rattle.grid_coords.specs.declared.points.DecimalPoint.{DecimalPoint}
use Rattle.mesh_check.specs.Centering.{MovedAnswer}
use Rattle.mesh_check.specs.Steps.{AndThen, Gives}
use Rattle.mesh_check.specs.declared.fault.CheckFault.{CheckFault}
use Rattle.node_files.specs.LeastGrid.{least_grid_of}
use Rattle.tetwhere_run.specs.Grid.{where_grid}
use Rattle.tetwhere_run.specs.declared.reading.WhereText.{WhereText}

-- an origin where the points are on no grid from zero
abbrev pub unless_on : Result Grid Range → Option WholePoint → Option WholePoint
unless_on (Ok grid) origin = None
unless_on (Err range) origin = origin

-- the point from which points are measured: none where they fit their least grid from zero, else the middle of their box
abbrev pub origin_for : List DecimalPoint → Option WholePoint
origin_for ps = unless_on (least_grid_of where_grid ps) (origin_of ps)

-- the mesh with these points, and these queries
abbrev pub with_places : WhereText → List DecimalPoint → List DecimalPoint → WhereText
with_places text ps qs =
    record { nodes = record text.nodes { decimals = ps }; rows = text.rows; queries = record text.queries { decimals = qs } }

-- the mesh and the queries measured from a point, or the first point of the mesh, and then the first query, that has a coordinate of over
-- 36 digits from there
abbrev pub MovedTextAnswer : Option WholePoint → WhereText → Result WhereText CheckFault → Type 0
MovedTextAnswer None text = Gives text
MovedTextAnswer (Some w) text =
    AndThen (MovedAnswer w text.nodes.decimals)
    (λ ps. AndThen (MovedAnswer w text.queries.decimals)
    (λ qs. Gives (with_places text ps qs)))

abbrev pub CenteredTextAnswer : WhereText → Result WhereText CheckFault → Type 0
CenteredTextAnswer text = MovedTextAnswer (origin_for text.nodes.decimals) text
