-- The status of a run of `tetgen`, the files that it leaves, and its messages.
use Rattle.std.specs.Prelude.{◌≡◌, ◌≢◌, ℕ, ◌+◌, ◌<◌, ◌^◌, ℤ, Bool, true, false, ◌&&◌, not, IsTrue, List, All, codes, length, Option, Some, None, Result, Ok, Err, if◌then◌else◌}
use Rattle.mesh_check.specs.Checking.{CheckAnswer}
use Rattle.mesh_check.specs.Telling.{sound_line}
use Rattle.mesh_check.specs.declared.fault.CheckFault.{CheckFault}
use Rattle.command_words.specs.Grammar.{words_fault}
use Rattle.command_words.specs.Meaning.{options_of}
use Rattle.command_words.specs.declared.options.Options.{Options}
use Rattle.geo_laws.specs.Delaunay.{numbers, IsDelaunayList}
use Rattle.geo_laws.specs.Laws.{IsTriangulation}
use Rattle.geo_laws.specs.Mesh.{IsMesh}
use Rattle.geo_laws.specs.Path.{Carving, HullOnly}
use Rattle.geo_laws.specs.declared.tetrahedra.Tet.{Tet}
use Rattle.mesh_files.specs.Laws.{AreInOneLine}
use Rattle.mesh_files.specs.Texts.{AreNamed, ele_text_of}
use Rattle.node_files.specs.Limits.{tetgen_limits}
use Rattle.node_files.specs.declared.limits.Limits.{Limits}
use Rattle.node_files.specs.declared.table.NodeTable.{NodeTable}
use Rattle.path_laws.specs.Flood.{carving_of}
use Rattle.weighted_mesh.specs.Weights.{weights_of}
use Rattle.weighted_mesh.specs.Regular.{IsRegularList}
use Rattle.weighted_mesh.specs.Hidden.{hidden_count}
use Rattle.weighted_mesh.specs.Meshing.{kept_weights}
use Rattle.tet_ports.specs.Counts.{Rose}
use Rattle.tet_ports.specs.Files.{Files}
use Rattle.run_steps.specs.Statuses.{message_of, names_points}
use Rattle.run_steps.specs.Numbering.{numbering_of}
use Rattle.run_steps.specs.declared.numbering.Numbering.{Numbering}
use Rattle.run_steps.specs.Meshing.{BoundAnswer, MeshAnswer, OutputsOfRun}
use Rattle.run_steps.specs.Outputs.{AreOutputsOf, first_of}
use Rattle.run_steps.specs.Reading.{InputAnswer}
use Rattle.tet_ports.specs.Seen.{FolderSeen, SinkSeen}
use Rattle.run_steps.specs.Steps.{forced_answer}
use Rattle.run_steps.specs.declared.input.Input.{Input}
use Rattle.run_steps.specs.declared.mesh.Bound.{Bound}
use Rattle.run_steps.specs.declared.meshed.Meshed.{Meshed}
use Rattle.run_steps.specs.declared.outputs.Outputs.{Outputs}
use Rattle.run_steps.specs.declared.status.Status.{Status}
use Rattle.run_steps.specs.declared.status.Status.TheVariants.{Done, Usage, NoMemory, WriteFault}
use Rattle.tetgen_run.specs.Ends.{AnswersBy, HasNoFault, IsUnchanged, LeavesBy, PartlySummed, TellsBy, answer_of, with_summary}
use Rattle.tetgen_run.specs.Stops.{stop_of_check}

-- ---- the check of a mesh

-- the check of the files that the options name: the number of tetrahedra of the mesh, where it is sound, or the first
-- refusal
abbrev pub Checked : Options → FolderSeen → Result ℕ CheckFault → Type 0
Checked options folder = CheckAnswer folder options.base options.decimals

-- the line on a sound mesh, if it is asked for
abbrev pub sound_summary : Options → ℕ → Option (List ℕ)
sound_summary options count = if options.quiet then None else Some (sound_line count)

-- the words ask for a check
abbrev pub asks_check : List (List ℕ) → Bool
asks_check words = (options_of words).check

-- the status of a refused check
abbrev pub status_of_check : CheckFault → Status
status_of_check fault = answer_of (Err (stop_of_check fault))

-- The cause of each answer of a check: words in the grammar and a sound mesh; words against it; the refusal of the
-- first step that refuses; a sound mesh and a fault of the sink of its line; and out of memory may always come
abbrev pub IsCheckAnswer : List (List ℕ) → FolderSeen → SinkSeen → Status → Type 0
IsCheckAnswer words folder out Done = (count : ℕ) × (words_fault words ≡ None) × Checked (options_of words) folder (Ok count)
IsCheckAnswer words folder out (Usage word place) = words_fault words ≡ Some (word, place)
IsCheckAnswer words folder out (WriteFault None) =
    (count : ℕ) × (words_fault words ≡ None) × Checked (options_of words) folder (Ok count) × Rose out.faults_before out.faults_now
IsCheckAnswer words folder out (WriteFault (Some name)) = ⊥
IsCheckAnswer words folder out NoMemory = Unit {0}
IsCheckAnswer words folder out status =
    (fault : CheckFault) × (words_fault words ≡ None) × Checked (options_of words) folder (Err fault) × (status_of_check fault ≡ status)

-- ---- the answer

-- the cause of each answer of a run that makes a mesh
abbrev pub IsMeshAnswer : Limits → List (List ℕ) → FolderSeen → SinkSeen → Status → Type 0
IsMeshAnswer limits words folder = AnswersBy (OutputsOfRun limits words folder) folder

-- by whether the words ask for a check
abbrev pub AnswerBy : Limits → Bool → List (List ℕ) → FolderSeen → SinkSeen → Status → Type 0
AnswerBy limits false = IsMeshAnswer limits
AnswerBy limits true = IsCheckAnswer

-- the cause of each answer
abbrev pub IsAnswerWithin : Limits → List (List ℕ) → FolderSeen → SinkSeen → Status → Type 0
IsAnswerWithin limits words = AnswerBy limits (asks_check words) words

-- Where contracts see the files, nothing failed in the folder and the sink and memory did not run out, each answer that
-- has a cause is the answer: the refusal of the first step that refuses, and Done where none does. Only where two
-- facets cross one tetrahedron there may be more: Done, and the anomalies that hold
abbrev pub IsCompleteWithin : Limits → List (List ℕ) → FolderSeen → SinkSeen → Status → Type 0
IsCompleteWithin limits words folder out status =
    (told : Files) → folder.files_before ≡ Some told → HasNoFault folder out → status ≢ NoMemory
    → (other : Status) → other ≢ NoMemory → IsAnswerWithin limits words folder out other → forced_answer status ≡ forced_answer other

-- ---- what is left

-- the carving of a mesh: for points alone the outside of their hull is cut away, and for a complex what is joined with
-- the outside, unless its hull is kept
abbrev pub carving_by : Options → Carving
carving_by options = if options.piecewise then carving_of options.keep_hull else HullOnly

-- the words ask for the regular list of weighted points
abbrev pub asks_regular : Options → Bool
asks_regular options = not options.piecewise && options.weighted

-- the mesh is the regular list of the kept points of a table, with the weights that their lines state, and with the
-- number of hidden points
pub record IsRegularMesh (table : NodeTable) (mesh : Meshed) : Type 0 where
  pub weights : List ℤ
  pub weights_are : weights_of table ≡ Ok weights
  pub list : IsRegularList mesh.points (kept_weights table weights) mesh.tetrahedra
  pub hidden : mesh.hidden ≡ Some (hidden_count (length mesh.points) mesh.tetrahedra)

-- The text of the tetrahedra determines them: other rows on the same points, without marks or with any marks, that have this text are the
-- same. The numbers of the points are below 2^64, and no attribute of a region has a line feed in it
abbrev pub IsDetermined : Options → Meshed → Type 0
IsDetermined options mesh =
    first_of options mesh + (length mesh.table.listed + length mesh.added) < 2 ^ 64 → AreInOneLine mesh.complex.regions
    → (marks : Option (List (Option ℕ))) (rows : List Tet) → All (λ t. AreNamed mesh.names (numbers t)) rows
    → ele_text_of marks mesh.complex.regions mesh.names (first_of options mesh) rows
    ≡ ele_text_of mesh.marks mesh.complex.regions mesh.names (first_of options mesh) mesh.tetrahedra
    → rows ≡ mesh.tetrahedra

-- The outputs are those of one mesh of an input that is read so, where the words are understood so. Its points are those of the input and
-- the added ones, its triangles those of the facets. Each rational point on no facet and off all face planes is strictly inside exactly
-- one of its tetrahedra, or inside none where it is out; facets inside the mesh are unions of its faces; every other shared face is
-- locally Delaunay; any two tetrahedra are properly met (`IsMesh` of the complex). Of points alone it is the Delaunay list, and of
-- weighted points the regular list: each triangulates the hull of all the points. No other outputs are those of the mesh, and the
-- text of the tetrahedra is that of no others.
pub record IsMeshBy (limits : Limits) (options : Options) (Understood : Type 0) (Read : Input → Type 0) (outputs : Outputs) : Type 0 where
  pub understood : Understood
  pub input : Input
  pub read : Read input
  pub bound : Bound
  pub on_grid : BoundAnswer limits options input (Ok bound)
  pub mesh : Meshed
  pub made : MeshAnswer options bound (Ok mesh)
  pub whole : asks_regular options ≡ false → IsMesh (carving_by options) mesh.points mesh.triangles mesh.complex.holes mesh.tetrahedra
  pub delaunay : options.piecewise ≡ false → options.weighted ≡ false → IsDelaunayList mesh.points mesh.tetrahedra
  pub regular : asks_regular options ≡ true → IsRegularMesh bound.table mesh
  pub triangulation : options.piecewise ≡ false → IsTriangulation mesh.points mesh.tetrahedra
  pub outputs_are : AreOutputsOf options mesh outputs
  pub only : (other : Outputs) → AreOutputsOf options mesh other → other ≡ outputs
  pub determined : IsDetermined options mesh

-- the outputs are those of one mesh of the input that the words name
abbrev pub IsMeshOfRunWithin : Limits → List (List ℕ) → FolderSeen → Outputs → Type 0
IsMeshOfRunWithin limits words folder =
    IsMeshBy limits (options_of words) (words_fault words ≡ None) (λ input. InputAnswer limits folder (options_of words) (Ok input))

-- what each answer of a run that makes a mesh leaves
abbrev pub IsLeftByMesh : Limits → List (List ℕ) → FolderSeen → SinkSeen → Status → Type 0
IsLeftByMesh limits words folder = LeavesBy (IsMeshOfRunWithin limits words folder) folder

-- What each answer of a check leaves: no file is changed; on Done the line on a sound mesh is put, and after a fault of that a prefix of it
abbrev pub IsLeftByCheck : List (List ℕ) → FolderSeen → SinkSeen → Status → Type 0
IsLeftByCheck words folder out Done = (count : ℕ) × Checked (options_of words) folder (Ok count)
    × (folder.files_now ≡ folder.files_before)
    × (out.written_now ≡ with_summary out.written_before (sound_summary (options_of words) count))
IsLeftByCheck words folder out (WriteFault None) = (count : ℕ) × Checked (options_of words) folder (Ok count)
    × (folder.files_now ≡ folder.files_before) × PartlySummed out.written_before (sound_summary (options_of words) count) out.written_now
IsLeftByCheck words folder out status = IsUnchanged folder out

-- by whether the words ask for a check
abbrev pub LeftBy : Limits → Bool → List (List ℕ) → FolderSeen → SinkSeen → Status → Type 0
LeftBy limits false = IsLeftByMesh limits
LeftBy limits true = IsLeftByCheck

-- what each answer leaves
abbrev pub IsLeftWithin : Limits → List (List ℕ) → FolderSeen → SinkSeen → Status → Type 0
IsLeftWithin limits words = LeftBy limits (asks_check words) words

-- ---- the message

-- where the message of the status prints points, these are their numbers: those of the points of the input that the words name
abbrev pub IsNumbering : Limits → List (List ℕ) → FolderSeen → Status → Option Numbering → Type 0
IsNumbering limits words folder status by =
    IsTrue (names_points status)
    → (input : Input) × InputAnswer limits folder (options_of words) (Ok input) × (bound : Bound)
    × BoundAnswer limits (options_of words) input (Ok bound) × (by ≡ Some (numbering_of bound.table))

-- the message of a refusal, behind the name of the program
abbrev pub tetgen_message : Option Numbering → Status → List ℕ
tetgen_message = message_of (codes "tetgen: ")

-- the message of each answer, by those numbers
abbrev pub IsToldWithin : Limits → List (List ℕ) → FolderSeen → SinkSeen → Status → Type 0
IsToldWithin limits words folder = TellsBy tetgen_message (IsNumbering limits words folder)

-- ---- the program `tetgen`

-- at the limits of the program: the cause of each answer, that each cause gives its answer, the mesh of the input, what is left, and the
-- message
abbrev pub IsAnswer : List (List ℕ) → FolderSeen → SinkSeen → Status → Type 0
IsAnswer = IsAnswerWithin tetgen_limits

abbrev pub IsComplete : List (List ℕ) → FolderSeen → SinkSeen → Status → Type 0
IsComplete = IsCompleteWithin tetgen_limits

abbrev pub IsMeshOfRun : List (List ℕ) → FolderSeen → Outputs → Type 0
IsMeshOfRun = IsMeshOfRunWithin tetgen_limits

abbrev pub IsLeft : List (List ℕ) → FolderSeen → SinkSeen → Status → Type 0
IsLeft = IsLeftWithin tetgen_limits

abbrev pub IsTold : List (List ℕ) → FolderSeen → SinkSeen → Status → Type 0
IsTold = IsToldWithin tetgen_limits
