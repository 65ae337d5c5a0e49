-- How a run ends that makes outputs and stores them, whatever its steps are: its status, the files that it leaves, and
-- its messages.
use Rattle.std.specs.Prelude.{◌≡◌, ◌⊎◌, ℕ, Bool, true, false, List, Option, Some, None, Result, Ok, Err}
use Rattle.tet_ports.specs.Counts.{Rose}
use Rattle.tet_ports.specs.Written.{PartlyPut, with_written}
use Rattle.run_steps.specs.declared.numbering.Numbering.{Numbering}
use Rattle.tet_ports.specs.Seen.{IsMessagePut, FolderSeen, SinkSeen}
use Rattle.run_steps.specs.Reports.{text_in}
use Rattle.run_steps.specs.Stores.{in_order, with_files, AreStoredTo, AreStoredInto}
use Rattle.run_steps.specs.declared.outputs.Outputs.{Outputs}
use Rattle.run_steps.specs.declared.status.Status.{Status}
use Rattle.run_steps.specs.declared.status.Status.TheVariants.{Done, NoMemory, WriteFault}
use Rattle.tetgen_run.specs.declared.stop.Stop.{Stop}
use Rattle.tetgen_run.specs.declared.stop.Stop.TheVariants.{Refused, Unwritten, Unsummed, NoMemory as Wanting}

-- ---- the answer

-- the status of a run by its end or stop
abbrev pub answer_of : Result (Unit {0}) Stop → Status
answer_of (Ok done) = Done
answer_of (Err (Refused status by)) = status
answer_of (Err (Unwritten text)) = WriteFault (Some text.name)
answer_of (Err Unsummed) = WriteFault None
answer_of (Err Wanting) = NoMemory

-- The cause of each answer of a run whose steps up to the first store make such outputs, or such a refusal: Done where
-- there are outputs; outputs, and a fault of the folder in a store or of the sink of the summary; out of memory may
-- always come; and any other answer is a refusal
abbrev pub AnswersBy : (Result Outputs Status → Type 0) → FolderSeen → SinkSeen → Status → Type 0
AnswersBy Made folder out Done = (outputs : Outputs) × Made (Ok outputs)
AnswersBy Made folder out (WriteFault None) = (outputs : Outputs) × Made (Ok outputs) × Rose out.faults_before out.faults_now
AnswersBy Made folder out (WriteFault (Some name)) = (outputs : Outputs) × Made (Ok outputs)
    × Rose folder.write_faults_before folder.write_faults_now
AnswersBy Made folder out NoMemory = Unit {0}
AnswersBy Made folder out status = Made (Err status)

-- no fetch, no store and no put failed
abbrev pub HasNoFault : FolderSeen → SinkSeen → Type 0
HasNoFault folder out = ¬ Rose folder.read_faults_before folder.read_faults_now × ¬ Rose folder.write_faults_before folder.write_faults_now
    × ¬ Rose out.faults_before out.faults_now

-- ---- what is left

-- nothing is changed
pub record IsUnchanged (folder : FolderSeen) (out : SinkSeen) : Type 0 where
  pub files : folder.files_now ≡ folder.files_before
  pub written : out.written_now ≡ out.written_before

-- the bytes with the summary after them, where there is one
abbrev pub with_summary : Option (List ℕ) → Option (List ℕ) → Option (List ℕ)
with_summary written None = written
with_summary written (Some line) = with_written written line

-- a prefix of the summary is appended
abbrev pub PartlySummed : Option (List ℕ) → Option (List ℕ) → Option (List ℕ) → Type 0
PartlySummed before None now = ⊥
PartlySummed before (Some line) now = PartlyPut before line now

-- What each answer leaves, where P holds of the outputs. Done: the files with the outputs' and the summary. A fault of
-- a store: the files before the named one whole, of that one a prefix or nothing. A fault of the summary: all files
-- whole, and a prefix of the summary. Out of memory: the files as they were, or with some of the outputs' files, from
-- the first on, whole. Every other answer: all as it was.
abbrev pub LeavesBy : (Outputs → Type 0) → FolderSeen → SinkSeen → Status → Type 0
LeavesBy P folder out Done = (outputs : Outputs) × P outputs
    × (folder.files_now ≡ with_files folder.files_before (in_order outputs.texts))
    × (out.written_now ≡ with_summary out.written_before (text_in outputs))
LeavesBy P folder out (WriteFault (Some name)) = (outputs : Outputs) × P outputs
    × AreStoredInto folder.files_before (in_order outputs.texts) name folder.files_now × (out.written_now ≡ out.written_before)
LeavesBy P folder out (WriteFault None) = (outputs : Outputs) × P outputs
    × (folder.files_now ≡ with_files folder.files_before (in_order outputs.texts))
    × PartlySummed out.written_before (text_in outputs) out.written_now
LeavesBy P folder out NoMemory = (out.written_now ≡ out.written_before)
    × ((folder.files_now ≡ folder.files_before)
    ⊎ ((outputs : Outputs) × P outputs × AreStoredTo folder.files_before (in_order outputs.texts) folder.files_now))
LeavesBy P folder out status = IsUnchanged folder out

-- ---- the message

-- Done has no message. Every other status has its message, by a numbering of the points
abbrev pub TellsBy : (Option Numbering → Status → List ℕ) → (Status → Option Numbering → Type 0) → SinkSeen → Status → Type 0
TellsBy message Numbered err Done = err.written_now ≡ err.written_before
TellsBy message Numbered err status = (by : Option Numbering) × Numbered status by × IsMessagePut (message by status) err

-- ---- the end before the message

-- how the stores of outputs end, and their summary
abbrev pub FinishesSo : Outputs → FolderSeen → SinkSeen → Result (Unit {0}) Stop → Type 0
FinishesSo outputs folder out (Ok done) = (folder.files_now ≡ with_files folder.files_before (in_order outputs.texts))
    × (out.written_now ≡ with_summary out.written_before (text_in outputs))
FinishesSo outputs folder out (Err (Refused status by)) = ⊥
FinishesSo outputs folder out (Err (Unwritten text)) =
    AreStoredInto folder.files_before (in_order outputs.texts) text.name folder.files_now × (out.written_now ≡ out.written_before)
    × Rose folder.write_faults_before folder.write_faults_now
FinishesSo outputs folder out (Err Unsummed) = (folder.files_now ≡ with_files folder.files_before (in_order outputs.texts))
    × PartlySummed out.written_before (text_in outputs) out.written_now
    × Rose out.faults_before out.faults_now
FinishesSo outputs folder out (Err Wanting) = (out.written_now ≡ out.written_before)
    × AreStoredTo folder.files_before (in_order outputs.texts) folder.files_now

-- why a run stops before its first store
abbrev pub StopsSo : (Result Outputs Status → Type 0) → (Status → Option Numbering → Type 0) → Stop → Type 0
StopsSo Made Numbered (Refused status by) = Made (Err status) × Numbered status by
StopsSo Made Numbered Wanting = Unit {0}
StopsSo Made Numbered stop = ⊥

-- how a run ends before its message
abbrev pub EndsWith : (Result Outputs Status → Type 0) → (Status → Option Numbering → Type 0)
    → FolderSeen → SinkSeen → Result (Unit {0}) Stop → Type 0
EndsWith Made Numbered folder out (Ok done) = (outputs : Outputs) × Made (Ok outputs)
    × (folder.files_now ≡ with_files folder.files_before (in_order outputs.texts))
    × (out.written_now ≡ with_summary out.written_before (text_in outputs))
EndsWith Made Numbered folder out (Err (Refused status by)) = IsUnchanged folder out × Made (Err status) × Numbered status by
EndsWith Made Numbered folder out (Err (Unwritten text)) = (outputs : Outputs) × Made (Ok outputs)
    × AreStoredInto folder.files_before (in_order outputs.texts) text.name folder.files_now × (out.written_now ≡ out.written_before)
    × Rose folder.write_faults_before folder.write_faults_now
EndsWith Made Numbered folder out (Err Unsummed) = (outputs : Outputs) × Made (Ok outputs)
    × (folder.files_now ≡ with_files folder.files_before (in_order outputs.texts))
    × PartlySummed out.written_before (text_in outputs) out.written_now
    × Rose out.faults_before out.faults_now
EndsWith Made Numbered folder out (Err Wanting) = (out.written_now ≡ out.written_before)
    × ((folder.files_now ≡ folder.files_before)
    ⊎ ((outputs : Outputs) × Made (Ok outputs) × AreStoredTo folder.files_before (in_order outputs.texts) folder.files_now))

-- the sink after the summary
abbrev pub IsSummed : Option (List ℕ) → SinkSeen → Result (Unit {0}) Stop → Type 0
IsSummed summary out (Ok done) = out.written_now ≡ with_summary out.written_before summary
IsSummed summary out (Err Unsummed) = PartlySummed out.written_before summary out.written_now × Rose out.faults_before out.faults_now
IsSummed summary out (Err Wanting) = out.written_now ≡ out.written_before
IsSummed summary out (Err stop) = ⊥

-- the numbering of points in the message of a stop
abbrev pub numbering_in : Stop → Option Numbering
numbering_in (Refused status by) = by
numbering_in stop = None

-- nothing was stored before the stop
abbrev pub IsEarly : Stop → Type 0
IsEarly (Refused status by) = Unit {0}
IsEarly stop = ⊥

-- the answer after a stop, and its message; or out of memory, where an early stop had no memory for its message
abbrev pub IsToldAs : (Option Numbering → Status → List ℕ) → Stop → SinkSeen → Status → Type 0
IsToldAs message stop err status =
    ((status ≡ answer_of (Err stop)) × IsMessagePut (message (numbering_in stop) (answer_of (Err stop))) err)
    ⊎ ((status ≡ NoMemory) × IsEarly stop × IsMessagePut (message None NoMemory) err)
