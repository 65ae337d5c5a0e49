-- What a refusal is, and what is told of it.
use Rattle.std.proofs.Common.{◌≡◌, ℕ, false, List, Option, refl}
use Rattle.std.specs.Prelude.{◌≢◌, IsTrue}
use Rattle.tet_ports.specs.Seen.{IsMessagePut, SinkSeen}
use Rattle.run_steps.specs.declared.numbering.Numbering.{Numbering}
use Rattle.run_steps.specs.declared.status.Status.{Status}
use Rattle.run_steps.specs.declared.status.Status.TheVariants.{Done, Empty, WriteFault}
use Rattle.tetgen_run.specs.Ends.{TellsBy}
use Rattle.run_steps.specs.Statuses.{names_points}

pub not_true : IsTrue false → ⊥
not_true t = cc

-- a refusal is neither Done nor a fault of a store or of the summary
abbrev pub IsRefusal : Status → Type 0
IsRefusal Done = ⊥
IsRefusal (WriteFault name) = ⊥
IsRefusal status = Unit {0}

-- that of a step before the outputs is not that the mesh is empty either
abbrev pub IsStepRefusal : Status → Type 0
IsStepRefusal Done = ⊥
IsStepRefusal Empty = ⊥
IsStepRefusal (WriteFault name) = ⊥
IsStepRefusal status = Unit {0}

pub step_refuses : (s : Status) → IsStepRefusal s → IsRefusal s
step_refuses Done h = absurd h
step_refuses Empty h = absurd h
step_refuses (WriteFault name) h = absurd h
step_refuses s h = tt

-- the message of the status prints no points
abbrev pub IsSilent : Status → Type 0
IsSilent s = names_points s ≡ false

pub refusal_told : (message : Option Numbering → Status → List ℕ) (Numbered : Status → Option Numbering → Type 0) (err : SinkSeen) (s : Status) (by : Option Numbering) → s ≢ Done → Numbered s by
    → IsMessagePut (message by s) err → TellsBy message Numbered err s
refusal_told message Numbered err Done by n h p = absurd (n refl)
refusal_told message Numbered err s by n h p = (by, h, p)

pub not_done : (s : Status) → IsRefusal s → s ≢ Done
not_done Done r = absurd r
not_done s r = λ e. cc
