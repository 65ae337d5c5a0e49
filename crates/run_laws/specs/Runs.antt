-- What a run over a told file answers, and what it leaves.
use Rattle.std.specs.Prelude.{◌≡◌, ◌≢◌, ◌⊎◌, ℕ, List, Some, Result, Ok, Err}
use Rattle.std.specs.FinMap as map
use Rattle.tet_ports.specs.Counts.{Rose}
use Rattle.tet_ports.specs.Files.{Files}
use Rattle.node_files.specs.Limits.{tetgen_limits}
use Rattle.run_steps.specs.Meshing.{OutputsOfRun}
use Rattle.tet_ports.specs.Seen.{FolderSeen, SinkSeen}
use Rattle.run_steps.specs.Steps.{forced_answer}
use Rattle.run_steps.specs.Reports.{text_in}
use Rattle.run_steps.specs.Stores.{in_order, with_files}
use Rattle.run_steps.specs.declared.outputs.Outputs.{Outputs}
use Rattle.run_steps.specs.declared.status.Status.{Status}
use Rattle.run_steps.specs.declared.status.Status.TheVariants.{Done, NoMemory}
use Rattle.tetgen_run.specs.Ends.{HasNoFault, with_summary}
use Rattle.tetgen_run.specs.Run.{IsAnswer, IsComplete, IsLeft}

-- the words of a run, and the name and the bytes of the file that it reads
pub record Start : Type 0 where
  pub words : List (List ℕ)
  pub name : List ℕ
  pub bytes : List ℕ

-- the folder tells its files, and has that one
pub record HasFile (start : Start) (folder : FolderSeen) : Type 0 where
  pub told : Files
  pub files : folder.files_before ≡ Some told
  pub held : map.get told start.name ≡ Some start.bytes

-- Such a run has these outputs
abbrev pub HasOutputs : Start → Outputs → Type 0
HasOutputs start outputs = (folder : FolderSeen) → HasFile start folder → OutputsOfRun tetgen_limits start.words folder (Ok outputs)

-- The run has no other outputs, and no refusal but out of memory, where the folder had no fault
abbrev pub HasNoOthers : Start → Outputs → Type 0
HasNoOthers start outputs = (folder : FolderSeen) → HasFile start folder → ¬ Rose folder.read_faults_before folder.read_faults_now
    → (answer : Result Outputs Status) → OutputsOfRun tetgen_limits start.words folder answer
    → (answer ≡ Ok outputs) ⊎ (answer ≡ Err NoMemory)

-- Without a fault and with enough memory, the answer of the run is Done
abbrev pub EndsDone : Start → Type 0
EndsDone start = (folder : FolderSeen) (out : SinkSeen) (status : Status) → HasFile start folder → HasNoFault folder out → status ≢ NoMemory
    → IsComplete start.words folder out status → forced_answer status ≡ Done

-- it ended with Done, and left the files that were there with its own set, and its summary put
pub record IsDone (outputs : Outputs) (folder : FolderSeen) (out : SinkSeen) (status : Status) : Type 0 where
  pub done : status ≡ Done
  pub files : folder.files_now ≡ with_files folder.files_before (in_order outputs.texts)
  pub written : out.written_now ≡ with_summary out.written_before (text_in outputs)

-- And what is left are these outputs
abbrev pub Leaves : Start → Outputs → Type 0
Leaves start outputs = (folder : FolderSeen) (out : SinkSeen) (status : Status) → HasFile start folder → HasNoFault folder out
    → status ≢ NoMemory → IsAnswer start.words folder out status → IsLeft start.words folder out status → IsDone outputs folder out status
