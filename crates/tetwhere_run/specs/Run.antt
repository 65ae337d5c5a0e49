-- What a run of the program answers, puts and tells.
use Rattle.std.specs.Prelude.{◌≡◌, ◌≢◌, ◌⊎◌, ℕ, List, [], Some, None, Result, Ok, Err}
use Rattle.std.specs.List.{slice_index_or}
use Rattle.tet_ports.specs.Counts.{Rose}
use Rattle.tet_ports.specs.Files.{Files}
use Rattle.tet_ports.specs.Written.{PartlyPut, with_written}
use Rattle.tet_ports.specs.Seen.{FolderSeen}
use Rattle.tet_ports.specs.Seen.{SinkSeen, IsMessagePut}
use Rattle.mesh_check.specs.declared.fault.CheckFault.{CheckFault}
use Rattle.mesh_check.specs.declared.fault.CheckFault.TheVariants.{NoMemory}
use Rattle.tetwhere_run.specs.Words.{bad_word}
use Rattle.tetwhere_run.specs.Locating.{LocateAnswer}
use Rattle.tetwhere_run.specs.Messages.{query_message_of}
use Rattle.tetwhere_run.specs.declared.status.WhereStatus.{WhereStatus}
use Rattle.tetwhere_run.specs.declared.status.WhereStatus.TheVariants.{Done, Usage, Refused, WriteFault}

-- the words are two names: the base of the mesh, and the file of queries
abbrev pub mesh_base_of : List (List ℕ) → List ℕ
mesh_base_of words = slice_index_or words 0 []

abbrev pub queries_of : List (List ℕ) → List ℕ
queries_of words = slice_index_or words 1 []

-- the answer of the files that the words name
abbrev pub FilesAnswer : List (List ℕ) → FolderSeen → Result (List ℕ) CheckFault → Type 0
FilesAnswer words folder result = (bad_word words ≡ None) × LocateAnswer folder (mesh_base_of words) (queries_of words) result

-- The cause of an answer: lines, where nothing is refused; words that are not two names; or the first refusal of the
-- files. A fault of the sink, and out of memory, which may always come, are none
abbrev pub HasCause : List (List ℕ) → FolderSeen → WhereStatus → Type 0
HasCause words folder Done = (lines : List ℕ) × FilesAnswer words folder (Ok lines)
HasCause words folder WriteFault = ⊥
HasCause words folder (Refused NoMemory) = ⊥
HasCause words folder (Usage word place) = (bad_word words ≡ Some word) × (place ≡ 1)
HasCause words folder (Refused fault) = FilesAnswer words folder (Err fault)

-- nothing is put
abbrev pub IsAsBefore : SinkSeen → Type 0
IsAsBefore out = out.written_now ≡ out.written_before

-- Each answer has its cause, and puts this. Done: the lines of all queries. A fault of the sink: a prefix of them.
-- Every other refusal, and out of memory, which may always come: nothing
abbrev pub IsQueryAnswer : List (List ℕ) → FolderSeen → SinkSeen → WhereStatus → Type 0
IsQueryAnswer words folder out Done = (lines : List ℕ) × FilesAnswer words folder (Ok lines)
    × (out.written_now ≡ with_written out.written_before lines)
IsQueryAnswer words folder out WriteFault = (lines : List ℕ) × FilesAnswer words folder (Ok lines)
    × PartlyPut out.written_before lines out.written_now × Rose out.faults_before out.faults_now
IsQueryAnswer words folder out (Refused NoMemory) = IsAsBefore out
IsQueryAnswer words folder out status = IsAsBefore out × HasCause words folder status

-- no fetch and no put failed
abbrev pub HasNoReadFault : FolderSeen → SinkSeen → Type 0
HasNoReadFault folder out = ¬ Rose folder.read_faults_before folder.read_faults_now × ¬ Rose out.faults_before out.faults_now

-- Where contracts see the files, no fetch and no put failed and memory did not run out, the answer that has a cause is
-- given: the first refusal in order, and Done where there is none
abbrev pub IsCompleteQuery : List (List ℕ) → FolderSeen → SinkSeen → WhereStatus → Type 0
IsCompleteQuery words folder out status =
    (told : Files) → folder.files_before ≡ Some told → HasNoReadFault folder out → status ≢ Refused NoMemory
    → (other : WhereStatus) → HasCause words folder other → status ≡ other

-- Done tells nothing. Every other answer has its message
abbrev pub IsQueryTold : SinkSeen → WhereStatus → Type 0
IsQueryTold err Done = IsAsBefore err
IsQueryTold err status = IsMessagePut (query_message_of status) err

-- ---- the end of a run

-- how a run ends before its message
abbrev pub QueryEndsSo : List (List ℕ) → FolderSeen → SinkSeen → Result (Unit {0}) WhereStatus → Type 0
QueryEndsSo words folder out (Ok done) = IsQueryAnswer words folder out Done
QueryEndsSo words folder out (Err status) = (status ≢ Done) × IsQueryAnswer words folder out status

-- why the lines are not put, and what that leaves
abbrev pub IsUnput : List ℕ → SinkSeen → WhereStatus → Type 0
IsUnput lines out WriteFault = PartlyPut out.written_before lines out.written_now × Rose out.faults_before out.faults_now
IsUnput lines out (Refused NoMemory) = IsAsBefore out
IsUnput lines out status = ⊥

-- what the put of the lines leaves
abbrev pub IsLinesPut : List ℕ → SinkSeen → Result (Unit {0}) WhereStatus → Type 0
IsLinesPut lines out (Ok done) = out.written_now ≡ with_written out.written_before lines
IsLinesPut lines out (Err status) = IsUnput lines out status

-- only a fault of the sink comes after something was put
abbrev pub IsEarlyQuery : WhereStatus → Type 0
IsEarlyQuery WriteFault = ⊥
IsEarlyQuery status = Unit {0}

-- a refusal with its message; or out of memory, where an early one had no memory for its message
abbrev pub IsQueryToldAs : WhereStatus → SinkSeen → WhereStatus → Type 0
IsQueryToldAs status err result =
    ((result ≡ status) × IsMessagePut (query_message_of status) err)
    ⊎ ((result ≡ Refused NoMemory) × IsEarlyQuery status × IsMessagePut (query_message_of (Refused NoMemory)) err)
