-- Runs of the programs over texts in memory, and what they hand over.
use Rattle.std.specs.Prelude.{◌≡◌, ◌⊎◌, ℕ, ◌+◌, ◌<◌, List, length, map, Some}
use Rattle.tet_ports.specs.Calls.{failures}
use Rattle.tet_ports.specs.MemFolder.{MemoryFiles}
use Rattle.tet_ports.specs.MemSink.{MemoryBytes}
use Rattle.tet_ports.specs.Seen.{FolderSeen, FolderState, SinkSeen, SinkState, folder_seen, sink_seen}
use Rattle.run_steps.specs.Statuses.{code_of}
use Rattle.run_steps.specs.declared.status.Status.{Status}
use Rattle.tetfit_run.specs.Run.{IsFitAnswer, IsFitComplete, IsFitLeft, IsFitTold}
use Rattle.tetgen_run.specs.Run.{IsAnswer, IsComplete, IsLeft, IsTold}
use Rattle.memory_runs.specs.Texts.{bytes_of, folder_of, joined, length_of, no_bytes, texts_left}
use Rattle.memory_runs.specs.declared.handing.RunFault.{RunFault}
use Rattle.memory_runs.specs.declared.handing.RunFault.TheVariants.{NoRoom, NoMemory}
use Rattle.memory_runs.specs.declared.ran.Ran.{Ran}
use Rattle.memory_runs.specs.declared.texts.Slice.{Slice}
use Rattle.memory_runs.specs.declared.texts.Task.{Task}

-- ---- what memory shows of itself

abbrev pub folder_shows : MemoryFiles → FolderState
folder_shows folder = record {
  files = Some folder.files;
  read_faults = failures folder.fetches;
  write_faults = failures folder.stores;
  misses = 0;
}

abbrev pub sink_shows : MemoryBytes → SinkState
sink_shows sink = record { written = Some sink.bytes; faults = failures sink.puts; wants = sink.wants }

-- the folder before a run and after it
abbrev pub folder_run : MemoryFiles → MemoryFiles → FolderSeen
folder_run before after = folder_seen folder_shows before after

-- a stream from its first byte to the end of a run
abbrev pub stream_run : MemoryBytes → SinkSeen
stream_run after = sink_seen sink_shows no_bytes after

-- ---- the runs

-- what a program promises of its words, the folder before it and after it, its lines, its messages and its status
abbrev pub RunLaw : Type 1
RunLaw = List (List ℕ) → MemoryFiles → MemoryFiles → MemoryBytes → MemoryBytes → Status → Type 0

-- `tetgen`: the cause of the status, that each cause has its status, the files and the lines, and the message
pub record IsTetgenRun (words : List (List ℕ)) (before after : MemoryFiles) (out err : MemoryBytes) (status : Status) : Type 0 where
  pub answer : IsAnswer words (folder_run before after) (stream_run out) status
  pub complete : IsComplete words (folder_run before after) (stream_run out) status
  pub left : IsLeft words (folder_run before after) (stream_run out) status
  pub told : IsTold words (folder_run before after) (stream_run err) status

-- the run of `tetfit` on a model as it is found; its messages have the stages too, where they are asked for
pub record IsTetfitRun (words : List (List ℕ)) (before after : MemoryFiles) (out err : MemoryBytes) (status : Status) : Type 0 where
  pub answer : IsFitAnswer words (folder_run before after) (stream_run out) status
  pub complete : IsFitComplete words (folder_run before after) (stream_run out) status
  pub left : IsFitLeft words (folder_run before after) (stream_run out) status
  pub told : IsFitTold words (folder_run before after) (stream_run err) status

-- this is a run of the program on the words, from the folder
abbrev pub RunsTo : RunLaw → List (List ℕ) → MemoryFiles → Ran → Type 0
RunsTo Run words before ran = Run words before ran.memory.folder ran.memory.out ran.memory.err ran.status

-- ---- what is handed over

-- of a run these are the lengths of the texts, these the texts, and this is the exit status
pub record AreTextsOf (ran : Ran) (wanted : List Slice) (lengths bytes : List ℕ) (code : ℕ) : Type 0 where
  pub code_is : code ≡ code_of ran.status
  pub lengths_are : lengths ≡ map length_of (texts_left ran wanted)
  pub bytes_are : bytes ≡ joined (texts_left ran wanted)

-- of a run the texts have this many bytes, and there is less room for these or for the lengths
pub record ExceedsSpace (ran : Ran) (wanted : List Slice) (lengths room count : ℕ) : Type 0 where
  pub counted : count ≡ length (joined (texts_left ran wanted))
  pub more : (lengths < length wanted + 2) ⊎ (room < count)

-- why the texts of a run are not handed over; out of memory may always come
abbrev pub IsTextsFault : Ran → List Slice → ℕ → ℕ → RunFault → Type 0
IsTextsFault ran wanted lengths room (NoRoom count) = ExceedsSpace ran wanted lengths room count
IsTextsFault ran wanted lengths room NoMemory = Unit {0}

-- ---- what is handed over of a program

-- a run of the program on the words and the files of the task
abbrev pub IsRunOf : RunLaw → Task → Ran → Type 0
IsRunOf Run task = RunsTo Run (map bytes_of task.words.now) (folder_of task.files.now)

-- Of a run of the program on the words and the files of the task, these are the lengths of the texts, these the texts, and this is the exit
-- status
pub record IsHandedOver (Run : RunLaw) (task : Task) (lengths bytes : List ℕ) (code : ℕ) : Type 0 where
  pub ran : Ran
  pub run : IsRunOf Run task ran
  pub texts : AreTextsOf ran task.wanted.now lengths bytes code

-- of such a run the texts have this many bytes, and there is less room for these or for the lengths
pub record LacksSpace (Run : RunLaw) (task : Task) (lengths room count : ℕ) : Type 0 where
  pub ran : Ran
  pub run : IsRunOf Run task ran
  pub exceeds : ExceedsSpace ran task.wanted.now lengths room count

-- why the texts of such a run are not handed over; out of memory may always come
abbrev pub IsRunFault : RunLaw → Task → ℕ → ℕ → RunFault → Type 0
IsRunFault Run task lengths room (NoRoom count) = LacksSpace Run task lengths room count
IsRunFault Run task lengths room NoMemory = Unit {0}
