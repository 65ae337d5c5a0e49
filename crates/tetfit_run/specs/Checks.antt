-- The check of a mesh that is there: the word `-rC`, and what it answers.
use Rattle.std.specs.Prelude.{◌≡◌, ℕ, ◌+◌, ◌-◌, Bool, false, not, ◌||◌, ◌&&◌, length, take, nat_eq, List, [], ◌∷◌, codes, Option, Some, None, Result, Ok, Err, if◌then◌else◌}
use Rattle.std.specs.List.{list_any, ends_with}
use Rattle.std.specs.Str.{bytes_eq}
use Rattle.command_words.specs.Words.{is_name, name_of}
use Rattle.mesh_check.specs.FarChecking.{FarCheckAnswer}
use Rattle.mesh_check.specs.Telling.{sound_line}
use Rattle.mesh_check.specs.declared.fault.CheckFault.{CheckFault}
use Rattle.tet_ports.specs.Seen.{FolderSeen}
use Rattle.run_steps.specs.declared.outputs.Outputs.{Outputs}
use Rattle.run_steps.specs.declared.report.Report.{Report}
use Rattle.run_steps.specs.declared.report.Report.TheVariants.{Text}
use Rattle.run_steps.specs.declared.status.Status.{Status}
use Rattle.run_steps.specs.declared.status.Status.TheVariants.{Usage, NoMemory}
use Rattle.tetgen_run.specs.Run.{status_of_check}
use Rattle.tetfit_run.specs.Words.{is_check}

-- ---- its words: -rC or -Cr, and beside that -Q and the name of the mesh alone

-- the word asks for no summary
abbrev pub is_quiet : List ℕ → Bool
is_quiet word = bytes_eq word (codes "-Q")

abbrev pub asks_quiet : List (List ℕ) → Bool
asks_quiet words = list_any is_quiet words

-- the word goes with -rC, where `named` says that a name stands before it
abbrev pub goes_with_check : Bool → List ℕ → Bool
goes_with_check named word = (is_check word || is_quiet word) || (is_name word && not named)

-- The first of these words that does not go with -rC, by its number and the place behind its last byte; or, where no name is among them,
-- the place behind the last word. The first of them has this number, and `named` says that a name stands before them
abbrev pub check_fault_from : ℕ → Bool → List (List ℕ) → Option (ℕ × ℕ)
check_fault_from number named [] = if named then None else Some (number, 1)
check_fault_from number named (word ∷ more) =
    if goes_with_check named word then check_fault_from (number + 1) (named || is_name word) more else Some (number, length word + 1)

abbrev pub check_fault : List (List ℕ) → Option (ℕ × ℕ)
check_fault words = check_fault_from 1 false words

-- ---- the name of the mesh

-- the name without this extension, where it ends so
abbrev pub cut_end : List ℕ → List ℕ → List ℕ
cut_end extension name = take (length name - length extension) name

-- the name of a mesh without the extension of one of its files
abbrev pub mesh_base : List ℕ → List ℕ
mesh_base name =
    if ends_with nat_eq name (codes ".node") then cut_end (codes ".node") name else
    if ends_with nat_eq name (codes ".ele") then cut_end (codes ".ele") name else
    if ends_with nat_eq name (codes ".face") then cut_end (codes ".face") name else
    if ends_with nat_eq name (codes ".neigh") then cut_end (codes ".neigh") name else name

-- the base of the files that the words name
abbrev pub check_base : List (List ℕ) → List ℕ
check_base words = mesh_base (name_of words)

-- ---- what it answers

-- outputs without files, with this report
abbrev pub reported : Option Report → Outputs
reported report = record {
  texts = record { node = None; ele = None; face = None; edge = None; neigh = None; whole = [] };
  report = report;
  tetrahedra = 0;
}

-- the outputs of a check of a sound mesh: no files, and the line with the number of its tetrahedra, where it is asked for
abbrev pub checked_outputs : Bool → ℕ → Outputs
checked_outputs quiet count = reported (if quiet then None else Some (Text (sound_line count)))

-- the mesh that the words name is sound, and the outputs have its line
abbrev pub IsSoundMesh : List (List ℕ) → FolderSeen → Outputs → Type 0
IsSoundMesh words folder outputs =
    (count : ℕ) × (check_fault words ≡ None) × FarCheckAnswer folder (check_base words) (Ok count)
    × (outputs ≡ checked_outputs (asks_quiet words) count)

-- The outputs of a check, or its refusal: of the words, or else the first of the check of the files that they name
abbrev pub OutputsOfCheck : List (List ℕ) → FolderSeen → Result Outputs Status → Type 0
OutputsOfCheck words folder (Ok outputs) = IsSoundMesh words folder outputs
OutputsOfCheck words folder (Err (Usage word place)) = check_fault words ≡ Some (word, place)
OutputsOfCheck words folder (Err NoMemory) = Unit {0}
OutputsOfCheck words folder (Err status) =
    (fault : CheckFault) × (check_fault words ≡ None) × FarCheckAnswer folder (check_base words) (Err fault)
    × (status_of_check fault ≡ status)
