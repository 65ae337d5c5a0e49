-- Models whose coordinates are measured from an origin.
use Rattle.std.specs.Prelude.{◌≡◌, ◌≤◌, ℕ, ◌+◌, min, map, List, Option, Some, None, Result, Ok, Err}
use Rattle.command_words.specs.declared.options.Options.{Options}
use Rattle.grid_coords.specs.Choice.{most_decimals}
use Rattle.grid_coords.specs.Origins.{most_near, origin_of}
use Rattle.grid_coords.specs.declared.origin.WholePoint.{WholePoint}
use Rattle.grid_coords.specs.declared.points.DecimalPoint.{DecimalPoint}
use Rattle.node_files.specs.Settling.{measured_from}
use Rattle.node_files.specs.declared.limits.Limits.{Limits}
use Rattle.node_files.specs.declared.node_text.NodeText.{NodeText}
use Rattle.plc_files.specs.Measuring.{measured_plc}
use Rattle.plc_files.specs.Text.{Plc}
use Rattle.run_steps.specs.Meshing.{BoundAnswer, MeshedAnswer}
use Rattle.run_steps.specs.declared.input.Input.{Input}
use Rattle.run_steps.specs.declared.mesh.Bound.{Bound}
use Rattle.run_steps.specs.declared.outputs.Outputs.{Outputs}
use Rattle.run_steps.specs.declared.status.Status.{Status}
use Rattle.run_steps.specs.declared.status.Status.TheVariants.{NoMemory}
use Rattle.tet_text.specs.Decimals.{Scaled}
use Rattle.tetfit_run.specs.Units.{input_by}

-- the point from which a model is measured: the middle of its box, in whole numbers
abbrev pub origin_in : Input → Option WholePoint
origin_in input = origin_of input.nodes.decimals

-- the most decimals that are tried: the most that a coordinate has, and 35 where one has more; from an origin
-- 17, or fewer where its coordinates have more than 17 digits with them
abbrev pub most_from : Option WholePoint → ℕ → ℕ
most_from None most = min 35 most
most_from (Some w) most = most_near w (min 17 most)

abbrev pub most_tried : Input → ℕ
most_tried input = most_from (origin_in input) (most_decimals input.nodes.decimals)

-- the first number of decimals that is tried, of at most `most`: the one that is given, where there is one
abbrev pub first_from : Option ℕ → ℕ → ℕ
first_from None most = most
first_from (Some given) most = min given most

abbrev pub first_tried : Options → Input → ℕ
first_tried options input = first_from options.decimals (most_tried input)

-- the last one: 0, or the first where a number is given
abbrev pub last_from : Option ℕ → ℕ → ℕ
last_from None first = 0
last_from (Some given) first = first

abbrev pub last_tried : Options → Input → ℕ
last_tried options input = last_from options.decimals (first_tried options input)

-- m decimals are among those that are tried: of those that the options give, and of no others, where they give any
pub record IsTried (options : Options) (input : Input) (m : ℕ) : Type 0 where
  pub most : m ≤ first_tried options input
  pub least : last_tried options input ≤ m

-- n decimals in place of m: as many where a number is given, and else as many or fewer
abbrev pub IsInPlaceOf : Option ℕ → ℕ → ℕ → Type 0
IsInPlaceOf None m n = n ≤ m
IsInPlaceOf (Some given) m n = n ≡ m

-- hole points and region points from an origin, with six decimals more than any that is tried
abbrev pub complex_from : Option WholePoint → ℕ → Plc → Plc
complex_from None most complex = complex
complex_from (Some w) most complex = measured_plc w (most + 6) complex

-- the model with its hole points and region points measured from its origin
abbrev pub moved_model : Input → Input
moved_model input = record input { complex = complex_from (origin_in input) (most_tried input) input.complex }

-- this model, with its points rounded to multiples of the unit first, where there is one, or out of memory
abbrev pub MovedAnswer : Option Scaled → Input → Result Input Status → Type 0
MovedAnswer unit input (Ok moved) = moved ≡ moved_model (input_by unit input)
MovedAnswer unit input (Err status) = status ≡ NoMemory

-- the options, with coordinates measured from the origin of the model
abbrev pub with_origin : Input → Options → Options
with_origin input options = record options { origin = origin_in input }

-- the points as they are tried: rounded and measured from an origin, where there is one
abbrev pub points_by : Option WholePoint → Option ℕ → List DecimalPoint → List DecimalPoint
points_by (Some w) (Some decimals) points = map (measured_from w decimals) points
points_by origin decimals points = points

abbrev pub nodes_by : Option WholePoint → Option ℕ → NodeText → NodeText
nodes_by origin decimals nodes = record nodes { decimals = points_by origin decimals nodes.decimals }

-- the input as it is tried with options
abbrev pub tried : Options → Input → Input
tried options input = record input { nodes = nodes_by options.origin options.decimals input.nodes }

-- the tried input on its grid
abbrev pub BoundTried : Limits → Options → Input → Result Bound Status → Type 0
BoundTried limits options input = BoundAnswer limits options (tried options input)

-- the outputs of the tried input
abbrev pub MeshedTried : Limits → Options → Input → Result Outputs Status → Type 0
MeshedTried limits options input = MeshedAnswer limits options (tried options input)
