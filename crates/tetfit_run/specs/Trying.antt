-- The decimals at which an input is tried: from the most that it has downward, or a number that is given.
use Rattle.std.specs.Prelude.{◌≡◌, ◌≤◌, ◌<◌, ℕ, Bool, true, false, Option, Some, None, Result, Ok, Err, IfErr}
use Rattle.command_words.specs.declared.options.Options.{Options}
use Rattle.node_files.specs.declared.limits.Limits.{Limits}
use Rattle.run_steps.specs.Meshing.{MeshAnswer, OutputsAnswer}
use Rattle.run_steps.specs.Numbering.{numbering_of}
use Rattle.run_steps.specs.Steps.{AndThen}
use Rattle.run_steps.specs.declared.input.Input.{Input}
use Rattle.run_steps.specs.declared.mesh.Bound.{Bound}
use Rattle.run_steps.specs.declared.numbering.Numbering.{Numbering}
use Rattle.run_steps.specs.declared.outputs.Outputs.{Outputs}
use Rattle.run_steps.specs.declared.status.LimitKind.TheVariants.{Grid}
use Rattle.run_steps.specs.declared.status.Status.{Status}
use Rattle.run_steps.specs.declared.status.Status.TheVariants.{Limit, GridEnd}
use Rattle.tetfit_run.specs.Measured.{BoundTried, IsTried, MeshedTried, first_tried, last_tried, most_tried}
use Rattle.tetfit_run.specs.Trial.{AreInTriedRange}
use Rattle.tetfit_run.specs.declared.fitting.Refused.{Refused}
use Rattle.tetfit_run.specs.declared.trying.Unfitted.{Unfitted}

-- the options, with coordinates rounded to m decimals
abbrev pub at_decimals : ℕ → Options → Options
at_decimals m options = record options { decimals = Some m }

-- the options, with coordinates as they are
abbrev pub without_decimals : Options → Options
without_decimals options = record options { decimals = None }

-- with each number of decimals that is tried the options are in their ranges
abbrev pub AreTriable : Options → Input → Type 0
AreTriable options input = (m : ℕ) → m ≤ most_tried input → AreInTriedRange (at_decimals m options)

-- the refusal is one of the grid: a point is off the grid, or a subsegment has no midpoint on it
abbrev pub is_of_grid : Status → Bool
is_of_grid (Limit (Grid line)) = true
is_of_grid (GridEnd piece) = true
is_of_grid status = false

-- the answer of the run without stores at m decimals
abbrev pub AnswerAt : Limits → Options → Input → ℕ → Result Outputs Status → Type 0
AnswerAt limits options input m = MeshedTried limits (at_decimals m options) input

-- at m decimals the grid refuses
pub record IsRefusedByGrid (limits : Limits) (options : Options) (input : Input) (m : ℕ) : Type 0 where
  pub status : Status
  pub of_grid : is_of_grid status ≡ true
  pub answer : AnswerAt limits options input m (Err status)

-- The answer at the greatest number of decimals at which the grid does not refuse, of those that are tried; where it refuses at each, the
-- answer at the last
pub record IsFitted (limits : Limits) (options : Options) (input : Input) (m : ℕ) (made : Result Outputs Status) : Type 0 where
  pub within : IsTried options input m
  pub answer : AnswerAt limits options input m made
  pub finer : (n : ℕ) → m < n → n ≤ first_tried options input → IsRefusedByGrid limits options input n
  pub last : IfErr made (λ status. is_of_grid status ≡ true → m ≡ last_tried options input)

-- what the outputs of a bound input answer
abbrev pub MadeAnswer : Options → Bound → Result Outputs Status → Type 0
MadeAnswer options bound = AndThen (MeshAnswer options bound) (OutputsAnswer options)

-- the numbering of the points of a refused trial: none where the input is on no grid, else that of the points on the
-- grid
abbrev pub IsNumbered : Limits → Options → Input → Status → Option Numbering → Type 0
IsNumbered limits options input status None = BoundTried limits options input (Err status)
IsNumbered limits options input status (Some by) =
    (bound : Bound) × BoundTried limits options input (Ok bound) × MadeAnswer options bound (Err status) × (by ≡ numbering_of bound.table)

-- the refusal and the numbering of a trial at m decimals
abbrev pub IsNumberedAt : Limits → Options → Input → ℕ → Unfitted → Type 0
IsNumberedAt limits options input m end = IsNumbered limits (at_decimals m options) input end.status end.numbering

-- the answer of a trial with its status alone
abbrev pub answer_in : Result Outputs Unfitted → Result Outputs Status
answer_in (Ok outputs) = Ok outputs
answer_in (Err end) = Err end.status

-- the refusal of an input that is fitted, with the numbers of its points
abbrev pub IsRefused : Limits → Options → Input → Refused → Type 0
IsRefused limits options input refused =
    IsFitted limits options input refused.decimals (Err refused.end.status) × IsNumberedAt limits options input refused.decimals refused.end
