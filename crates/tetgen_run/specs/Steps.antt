-- How a run ends before its message, by its steps.
use Rattle.std.specs.Prelude.{◌≡◌, ℕ, Bool, true, false, List, Some, None, Result, Ok, Err}
use Rattle.mesh_check.specs.declared.fault.CheckFault.{CheckFault}
use Rattle.command_words.specs.Grammar.{words_fault}
use Rattle.command_words.specs.Meaning.{options_of}
use Rattle.command_words.specs.declared.options.Options.{Options}
use Rattle.node_files.specs.declared.limits.Limits.{Limits}
use Rattle.tet_ports.specs.Counts.{Rose}
use Rattle.run_steps.specs.Meshing.{OutputsOfRun}
use Rattle.tet_ports.specs.Seen.{FolderSeen, SinkSeen}
use Rattle.run_steps.specs.declared.status.Status.TheVariants.{Usage}
use Rattle.tetgen_run.specs.Ends.{EndsWith, IsUnchanged, PartlySummed, with_summary}
use Rattle.tetgen_run.specs.Run.{Checked, IsNumbering, asks_check, sound_summary}
use Rattle.tetgen_run.specs.Stops.{stop_of_check}
use Rattle.tetgen_run.specs.declared.stop.Stop.{Stop}
use Rattle.tetgen_run.specs.declared.stop.Stop.TheVariants.{Refused, Unwritten, Unsummed, NoMemory as Wanting}

-- how a run that makes a mesh ends before its message
abbrev pub EndsByMesh : Limits → List (List ℕ) → FolderSeen → SinkSeen → Result (Unit {0}) Stop → Type 0
EndsByMesh limits words folder = EndsWith (OutputsOfRun limits words folder) (IsNumbering limits words folder) folder

-- how a check ends before its message, where the words are in the grammar: no file is changed
abbrev pub ChecksSo : Options → FolderSeen → SinkSeen → Result (Unit {0}) Stop → Type 0
ChecksSo options folder out (Ok done) = (count : ℕ) × Checked options folder (Ok count)
    × (folder.files_now ≡ folder.files_before) × (out.written_now ≡ with_summary out.written_before (sound_summary options count))
ChecksSo options folder out (Err (Refused status by)) = (fault : CheckFault) × Checked options folder (Err fault)
    × (stop_of_check fault ≡ Refused status by) × IsUnchanged folder out
ChecksSo options folder out (Err (Unwritten text)) = ⊥
ChecksSo options folder out (Err Unsummed) = (count : ℕ) × Checked options folder (Ok count)
    × (folder.files_now ≡ folder.files_before) × PartlySummed out.written_before (sound_summary options count) out.written_now
    × Rose out.faults_before out.faults_now
ChecksSo options folder out (Err Wanting) = IsUnchanged folder out

-- how a run that asks for a check ends: its words are against the grammar, or it is out of memory, or it checks
abbrev pub EndsByCheck : List (List ℕ) → FolderSeen → SinkSeen → Result (Unit {0}) Stop → Type 0
EndsByCheck words folder out (Err (Refused (Usage word place) by)) = (words_fault words ≡ Some (word, place)) × IsUnchanged folder out
EndsByCheck words folder out (Err Wanting) = IsUnchanged folder out
EndsByCheck words folder out end = (words_fault words ≡ None) × ChecksSo (options_of words) folder out end

-- by whether the words ask for a check
abbrev pub EndsBy : Limits → Bool → List (List ℕ) → FolderSeen → SinkSeen → Result (Unit {0}) Stop → Type 0
EndsBy limits false = EndsByMesh limits
EndsBy limits true = EndsByCheck

-- how a run ends before its message
abbrev pub EndsSo : Limits → List (List ℕ) → FolderSeen → SinkSeen → Result (Unit {0}) Stop → Type 0
EndsSo limits words = EndsBy limits (asks_check words) words
