-- Point lists on a grid.
use Rattle.std.specs.Prelude.{◌≡◌, ℕ, ◌<◌, ◌≤◌, length, List, map, Option, Some, None, Result, Ok, Err}
use Rattle.grid_coords.specs.declared.grid.Grid.{Grid}
use Rattle.grid_coords.specs.declared.origin.WholePoint.{WholePoint}
use Rattle.grid_coords.specs.declared.points.DecimalPoint.{DecimalPoint}
use Rattle.grid_coords.specs.Origins.{moved_point}
use Rattle.grid_coords.specs.Rounding.{rounded}
use Rattle.grid_coords.specs.Units.{grid_point}
use Rattle.grid_coords.specs.Choice.{grid_of}
use Rattle.node_files.specs.declared.fault.NodeFault.{NodeFault}
use Rattle.node_files.specs.declared.fault.NodeFault.TheVariants as faults
use Rattle.node_files.specs.declared.limits.Limits.{Limits}
use Rattle.node_files.specs.declared.node_text.NodeText.{NodeText}
use Rattle.node_files.specs.declared.table.NodeTable.{NodeTable}
use Rattle.node_files.specs.declared.table.GridOptions.{GridOptions}
use Rattle.node_files.specs.Folding.{IsFolded}

abbrev pub rounded_point : ℕ → DecimalPoint → DecimalPoint
rounded_point decimals p = record { x = rounded decimals p.x; y = rounded decimals p.y; z = rounded decimals p.z; line = p.line }

-- the point, rounded, less an origin
abbrev pub measured_from : WholePoint → ℕ → DecimalPoint → DecimalPoint
measured_from w decimals p = moved_point w (rounded_point decimals p)

-- the points, rounded where the options have decimals
abbrev pub rounded_points : Option ℕ → List DecimalPoint → List DecimalPoint
rounded_points None ps = ps
rounded_points (Some decimals) ps = map (rounded_point decimals) ps

-- the table with what the text says, where these are its points as they are rounded; its grid, and how its equal points are folded, stay
abbrev pub with_text : NodeText → List DecimalPoint → NodeTable → NodeTable
with_text text ps table = record table {
  first = text.first;
  attribute_count = text.attribute_count;
  flag = text.flag;
  decimals = ps;
  attributes = text.attributes;
  markers = text.markers;
  listed = map (grid_point table.grid) ps;
}

-- there are more points than are allowed; the fault has both numbers
pub record IsTooMany (limits : Limits) (text : NodeText) (count most : ℕ) : Type 0 where
  pub many : limits.points < length text.decimals
  pub counted : count ≡ length text.decimals
  pub told : most ≡ limits.points

-- the points are not too many, and on no grid, since the point of this line is off it
pub record IsOffGrid (limits : Limits) (text : NodeText) (options : GridOptions) (line : ℕ) : Type 0 where
  pub few : length text.decimals ≤ limits.points
  pub off : grid_of limits.grid options.halvings (rounded_points options.decimals text.decimals) ≡ Err (record { line = line })

-- the points are not too many, and on this grid
pub record IsOnItsGrid (limits : Limits) (text : NodeText) (options : GridOptions) (grid : Grid) : Type 0 where
  pub few : length text.decimals ≤ limits.points
  pub on : grid_of limits.grid options.halvings (rounded_points options.decimals text.decimals) ≡ Ok grid

-- the table has the points on their grid, with equal ones folded
pub record IsSettled (limits : Limits) (text : NodeText) (options : GridOptions) (table : NodeTable) : Type 0 where
  pub on : IsOnItsGrid limits text options table.grid
  pub is : table ≡ with_text text (rounded_points options.decimals text.decimals) table
  pub folded : IsFolded table.listed table.points table.names table.folded

-- the first of these refusals that there is, unless memory ran out, else the table
abbrev pub Settles : Limits → NodeText → GridOptions → Result NodeTable NodeFault → Type 0
Settles limits text options (Ok table) = IsSettled limits text options table
Settles limits text options (Err (faults.TooMany count most)) = IsTooMany limits text count most
Settles limits text options (Err (faults.Range line)) = IsOffGrid limits text options line
Settles limits text options (Err faults.NoMemory) = Unit {0}
Settles limits text options (Err (faults.Text fault)) = ⊥
