-- Which row of a mesh holds each query.
use Rattle.std.specs.Prelude.{◌≡◌, ℕ, ◌+◌, ◌≤◌, ◌++◌, List, [], ◌∷◌, length, map, codes, Option, None, Some, Result, Ok, Err}
use Rattle.std.specs.Fmt.{decimal}
use Rattle.std.specs.List.{flat_map, enumerate_from}
use Rattle.grid_coords.specs.declared.points.DecimalPoint.{DecimalPoint}
use Rattle.mesh_check.specs.Defects.{IsNotPositive}
use Rattle.mesh_check.specs.Searches.{IsLeastOf}
use Rattle.mesh_check.specs.declared.defect.Defect.TheVariants.{NotPositive}
use Rattle.node_files.specs.LeastGrid.{least_grid_of, point_on}
use Rattle.row_cells.specs.Where.{first_holding}
use Rattle.mesh_check.specs.Checking.{IsUnsettled, most_points}
use Rattle.tet_ports.specs.Seen.{FolderSeen}
use Rattle.mesh_check.specs.Steps.{AndThen, Gives}
use Rattle.mesh_check.specs.declared.fault.CheckFault.{CheckFault}
use Rattle.mesh_check.specs.declared.fault.CheckFault.TheVariants.{Unsound}
use Rattle.tetwhere_run.specs.Centering.{CenteredTextAnswer}
use Rattle.tetwhere_run.specs.Grid.{where_grid}
use Rattle.tetwhere_run.specs.Nearest.{nearest_point}
use Rattle.tetwhere_run.specs.Reading.{WhereTextAnswer}
use Rattle.tetwhere_run.specs.declared.reading.WhereText.{WhereText}
use Rattle.tetwhere_run.specs.declared.settling.Settled.{Settled}

-- there are not too many points, and these are their least grid and the points on it
pub record IsSettledMesh (ps : List DecimalPoint) (s : Settled) : Type 0 where
  pub few : length ps ≤ most_points
  pub grid : least_grid_of where_grid ps ≡ Ok s.grid
  pub points : s.points ≡ map (point_on s.grid) ps

-- the points on their least grid
abbrev pub SettledAnswer : List DecimalPoint → Result Settled CheckFault → Type 0
SettledAnswer ps (Ok settled) = IsSettledMesh ps settled
SettledAnswer ps (Err fault) = IsUnsettled where_grid None ps fault

-- the first row that is not positive
abbrev pub IsNegative : WhereText → Settled → CheckFault → Type 0
IsNegative text s (Unsound (NotPositive row) first) = (first ≡ text.nodes.first) × IsLeastOf (IsNotPositive s.points text.rows) (Some row)
IsNegative text s fault = ⊥

-- all rows are positive
abbrev pub PositiveAnswer : WhereText → Settled → Result (Unit {0}) CheckFault → Type 0
PositiveAnswer text s (Ok done) = IsLeastOf (IsNotPositive s.points text.rows) None
PositiveAnswer text s (Err fault) = IsNegative text s fault

-- the number of a row, or -1 where there is none
abbrev pub found_row_text : ℕ → Option ℕ → List ℕ
found_row_text first None = codes "-1"
found_row_text first (Some row) = decimal (row + first)

-- The line of the query at a place: its number, and that of the first row whose closed tetrahedron holds it
abbrev pub query_line : WhereText → Settled → ℕ → DecimalPoint → List ℕ
query_line text s place query =
    decimal (place + text.queries.first) ++ codes " "
    ++ found_row_text text.nodes.first (first_holding s.points text.rows (nearest_point s.grid query)) ++ (10 ∷ [])

-- the lines of queries from a place on
abbrev pub query_lines : WhereText → Settled → ℕ → List DecimalPoint → List ℕ
query_lines text s place queries = flat_map (λ q. query_line text s q.0 q.1) (enumerate_from place queries)

-- the lines of all queries, in order
abbrev pub answer_text : WhereText → Settled → List ℕ
answer_text text s = query_lines text s 0 text.queries.decimals

abbrev pub AnswersAnswer : WhereText → Settled → Result (List ℕ) CheckFault → Type 0
AnswersAnswer text s = Gives (answer_text text s)

-- the answers to queries over a mesh that is measured as the queries are
abbrev pub IsLocatedOnGrid : WhereText → Result (List ℕ) CheckFault → Type 0
IsLocatedOnGrid text =
    AndThen (SettledAnswer text.nodes.decimals)
    (λ settled. AndThen (PositiveAnswer text settled)
    (λ done. AnswersAnswer text settled))

-- the answers to the queries that the files spell; where the points are off the grid from zero, points and queries are measured from the
-- middle of the points' box
abbrev pub TextLocated : WhereText → Result (List ℕ) CheckFault → Type 0
TextLocated text = AndThen (CenteredTextAnswer text) IsLocatedOnGrid

-- The answers to the queries of a file over the mesh with this base, or the first refusal in this order: of each file in turn its fetch and
-- its text, then too many points, a point off the grid, and the first row that is not positive
abbrev pub LocateAnswer : FolderSeen → List ℕ → List ℕ → Result (List ℕ) CheckFault → Type 0
LocateAnswer seen base queries = AndThen (WhereTextAnswer seen base queries) TextLocated
