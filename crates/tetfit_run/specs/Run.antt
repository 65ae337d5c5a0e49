-- The status of a run of `tetfit`, the files that it leaves, and its messages.
use Rattle.std.specs.Prelude.{◌≡◌, ◌≢◌, ◌⊎◌, ℕ, IsTrue, false, List, Option, Some, None, Ok, Err}
use Rattle.command_words.specs.declared.options.Options.{Options}
use Rattle.tetfit_run.specs.Keyword.{TellsKeyword}
use Rattle.tetfit_run.specs.Hints.{IsHint, IsHintBy, flat_text, moved_text, off_grid_text}
use Rattle.tetfit_run.specs.Measured.{BoundTried, IsInPlaceOf, origin_in, tried, with_origin}
use Rattle.grid_coords.specs.declared.origin.WholePoint.{WholePoint}
use Rattle.tetfit_run.specs.Models.{IsStatedBy, ModelAnswer, named_surface}
use Rattle.tetfit_run.specs.Trying.{IsFitted, IsNumbered, at_decimals}
use Rattle.tetfit_run.specs.Stages.{AreStagesPut, since, until}
use Rattle.refining.specs.declared.goal.Goal.{Goal}
use Rattle.tetfit_run.specs.Refined.{HasBareMesh, IsRefinedMeshBy}
use Rattle.tetfit_run.specs.Words.{fit_fault, fit_goal, fit_name, fit_options, others, request_of}
use Rattle.tetfit_run.specs.declared.model.Model.{Model}
use Rattle.tetfit_run.specs.declared.model.Stated.{Stated}
use Rattle.tetfit_run.specs.declared.page.TheConstants.{PAGE, VERSION}
use Rattle.tetfit_run.specs.declared.request.Request.{Request}
use Rattle.tetfit_run.specs.declared.request.Request.TheVariants.{Page, Version, Check, Mesh}
use Rattle.run_steps.specs.Numbering.{numbering_of}
use Rattle.tet_ports.specs.Seen.{FolderSeen, SinkSeen, SinkState}
use Rattle.run_steps.specs.Steps.{forced_answer}
use Rattle.run_steps.specs.declared.input.Input.{Input}
use Rattle.run_steps.specs.declared.mesh.Bound.{Bound}
use Rattle.run_steps.specs.declared.numbering.Numbering.{Numbering}
use Rattle.run_steps.specs.declared.outputs.Outputs.{Outputs}
use Rattle.run_steps.specs.declared.status.LimitKind.TheVariants.{Grid}
use Rattle.run_steps.specs.declared.status.Status.{Status}
use Rattle.run_steps.specs.declared.status.Status.TheVariants.{Done, BadText, Empty, Limit, Flat, NoMemory}
use Rattle.tet_ports.specs.Files.{Files}
use Rattle.tetgen_run.specs.Ends.{AnswersBy, HasNoFault, LeavesBy, TellsBy}
use Rattle.run_steps.specs.Statuses.{names_points}
use Rattle.tetgen_run.specs.Run.{IsMeshBy}
use Rattle.tetgen_run.specs.declared.stop.Stop.{Stop}
use Rattle.tetgen_run.specs.declared.stop.Stop.TheVariants.{Refused, NoMemory as Wanting}
use Rattle.tetfit_run.specs.Checks.{IsSoundMesh}
use Rattle.tetfit_run.specs.Messages.{fit_message}
use Rattle.tetfit_run.specs.Opening.{TellsOpening, is_empty}
use Rattle.tetfit_run.specs.Outputs.{IsConformedAt, IsEmptyAt, IsOffSomeGrid, OutputsOfFit, fit_limits, outputs_at, said}

-- The cause of each answer. Done where there are outputs, and any other answer is the refusal of a step: of a mesh it is that of the run at
-- some number of decimals, and at each greater number up to the first one that is tried the grid refuses; of a check it is the first one
-- of the files, of the points or of the mesh
abbrev pub IsFitAnswer : List (List ℕ) → FolderSeen → SinkSeen → Status → Type 0
IsFitAnswer words folder = AnswersBy (OutputsOfFit words folder) folder

-- Done, for the refusal of a mesh without a tetrahedron
abbrev pub meshed_answer : Status → Status
meshed_answer Empty = Done
meshed_answer status = status

-- The words ask for a mesh with bounded tetrahedra, and the model that they name is refused without further points, and at some number
-- of decimals by the grid
pub record MayConform (words : List (List ℕ)) (folder : FolderSeen) : Type 0 where
  pub asked : request_of words ≡ Mesh
  pub goal : Goal
  pub bounded : fit_goal (others words) ≡ Some goal
  pub input : Input
  pub read : ModelAnswer fit_limits folder (fit_name (others words)) (fit_options (others words)) (Ok input)
  pub decimals : ℕ
  pub status : Status
  pub refused : IsFitted fit_limits (with_origin input (fit_options (others words))) input decimals (Err status)
  pub off_grid : IsOffSomeGrid (with_origin input (fit_options (others words))) input

-- Where contracts see the files, nothing failed and memory did not run out, each answer that has a cause is the answer,
-- except where two facets cross one tetrahedron, as in a run of `tetgen`, and where added points may help a model that is refused
-- without them. Whether a mesh is empty is told by its cause
abbrev pub IsFitComplete : List (List ℕ) → FolderSeen → SinkSeen → Status → Type 0
IsFitComplete words folder out status =
    (told : Files) → folder.files_before ≡ Some told → HasNoFault folder out → status ≢ NoMemory
    → (other : Status) → other ≢ NoMemory → IsFitAnswer words folder out other
    → MayConform words folder ⊎ (forced_answer (meshed_answer status) ≡ forced_answer (meshed_answer other))

-- ---- what is left

-- the input is the model that the words name as it is tried with options, which have its origin
abbrev pub IsTriedOf : Options → List (List ℕ) → FolderSeen → Input → Input → Type 0
IsTriedOf options words folder input at =
    ModelAnswer fit_limits folder (fit_name words) (fit_options words) (Ok input) × (options.origin ≡ origin_in input)
    × (at ≡ tried options input)

-- the options of words, with coordinates measured from an origin
abbrev pub options_from : Option WholePoint → List (List ℕ) → Options
options_from origin words = record (fit_options words) { origin = origin }

-- The outputs in the end, with coordinates rounded to n decimals: those of the mesh that is fitted, at m decimals, or,
-- where tetrahedra are bounded, those of one mesh of the model with points behind its own, at n in place of m
abbrev pub IsFinalMesh : Option Goal → Options → List (List ℕ) → FolderSeen → ℕ → Outputs → ℕ → Outputs → Type 0
IsFinalMesh None options words folder m made n final = (n ≡ m) × (final ≡ made)
IsFinalMesh (Some goal) options words folder m made n final = IsInPlaceOf options.decimals m n
    × IsRefinedMeshBy goal fit_limits (at_decimals n options) (fit_fault words ≡ None)
    (λ at. (input : Input) × IsTriedOf (at_decimals n options) words folder input at) (HasBareMesh (at_decimals n options)) final

-- The outputs are those of one mesh of the model that the words name, at a number of decimals that their summary has:
-- at each greater number of decimals, up to the first one that is tried, the grid refuses the model. Where a volume or a
-- ratio is given, the mesh has points behind those of the model, perhaps at fewer decimals, and the summary has the
-- number of tetrahedra over each. The mesh that is fitted has a tetrahedron. Where coordinates were rounded, a line behind the
-- summary says by how much they moved at most
pub record IsMeshOfModel (words : List (List ℕ)) (folder : FolderSeen) (outputs : Outputs) : Type 0 where
  pub origin : Option WholePoint
  pub decimals : ℕ
  pub made : Outputs
  pub final_decimals : ℕ
  pub final : Outputs
  pub more : List ℕ
  pub some : is_empty made ≡ false
  pub mesh : IsMeshBy fit_limits (at_decimals decimals (options_from origin words)) (fit_fault words ≡ None)
      (λ at. (input : Input) × IsTriedOf (at_decimals decimals (options_from origin words)) words folder input at
      × IsFitted fit_limits (options_from origin words) input decimals (Ok made)
      × (more ≡ moved_text (options_from origin words) final_decimals input.nodes.decimals)) made
  pub refined : IsFinalMesh (fit_goal words) (options_from origin words) words folder decimals made final_decimals final
  pub outputs_are : outputs ≡ outputs_at final_decimals more final

-- The outputs are those of one mesh of the model that the words name, with points behind those of the model, where tetrahedra are
-- bounded: the model is refused without them, and at some number of decimals by the grid. The mesh has a tetrahedron, and behind
-- the summary stands the line on rounding, as behind that of another mesh
pub record IsConformedModel (goal : Goal) (words : List (List ℕ)) (folder : FolderSeen) (outputs : Outputs) : Type 0 where
  pub origin : Option WholePoint
  pub input : Input
  pub read : ModelAnswer fit_limits folder (fit_name words) (fit_options words) (Ok input)
  pub origin_is : origin ≡ origin_in input
  pub final_decimals : ℕ
  pub final : Outputs
  pub conformed : IsConformedAt goal (options_from origin words) input final_decimals final
  pub mesh : IsRefinedMeshBy goal fit_limits (at_decimals final_decimals (options_from origin words)) (fit_fault words ≡ None)
      (λ at. at ≡ tried (at_decimals final_decimals (options_from origin words)) input) (λ bound. Unit {0}) final
  pub outputs_are : outputs ≡ outputs_at final_decimals (moved_text (options_from origin words) final_decimals input.nodes.decimals) final

-- what the outputs of a model are, by the bounds on its tetrahedra
abbrev pub IsModelMesh : Option Goal → List (List ℕ) → FolderSeen → Outputs → Type 0
IsModelMesh None words folder outputs = IsMeshOfModel words folder outputs
IsModelMesh (Some goal) words folder outputs = IsMeshOfModel words folder outputs ⊎ IsConformedModel goal words folder outputs

-- what the outputs of a request are
abbrev pub IsAskedBy : Request → List (List ℕ) → FolderSeen → Outputs → Type 0
IsAskedBy Page words folder outputs = outputs ≡ said PAGE.now
IsAskedBy Version words folder outputs = outputs ≡ said VERSION.now
IsAskedBy Check words folder outputs = IsSoundMesh (others words) folder outputs
IsAskedBy Mesh words folder outputs = IsModelMesh (fit_goal (others words)) (others words) folder outputs

-- what each answer leaves
abbrev pub IsFitLeft : List (List ℕ) → FolderSeen → SinkSeen → Status → Type 0
IsFitLeft words folder = LeavesBy (IsAskedBy (request_of words) words folder) folder

-- ---- what is told

-- the stop on a mesh without a tetrahedron at m decimals, and the line that says why it has none
abbrev pub TellsEmpty : Options → Input → ℕ → List ℕ → Stop → Type 0
TellsEmpty options input m hint (Refused Empty by) = TellsOpening fit_limits (at_decimals m options) input hint
TellsEmpty options input m hint Wanting = Unit {0}
TellsEmpty options input m hint stop = ⊥

-- why a model that is fitted has no outputs, and the lines on the model that follow the message
abbrev pub IsUnfitted : Options → Model → List ℕ → Stop → Type 0
IsUnfitted options model hint (Refused Empty by) =
    (m : ℕ) × IsEmptyAt options model.input m × TellsOpening fit_limits (at_decimals m options) model.input hint
IsUnfitted options model hint (Refused status by) =
    (m : ℕ) × IsFitted fit_limits options model.input m (Err status)
    × IsNumbered fit_limits (at_decimals m options) model.input status by
    × IsHint fit_limits model.stated (at_decimals m options) model.input by status hint
IsUnfitted options model hint Wanting = Unit {0}
IsUnfitted options model hint stop = ⊥

-- Where the message of the status prints points, these are their numbers: those of the points of the model at those
-- decimals. The lines that follow are on the segment of the model, or have the coordinates of the parts
abbrev pub IsNumberingOf : List ℕ → Options → FolderSeen → List ℕ → Status → Option Numbering → Type 0
IsNumberingOf name options folder hint status by =
    IsTrue (names_points status)
    → (input : Input) × ModelAnswer fit_limits folder name options (Ok input)
    × (m : ℕ) × IsFitted fit_limits (with_origin input options) input m (Err status)
    × (bound : Bound) × BoundTried fit_limits (at_decimals m (with_origin input options)) input (Ok bound)
    × (by ≡ Some (numbering_of bound.table))
    × IsHintBy fit_limits (at_decimals m (with_origin input options)) input (numbering_of bound.table) status hint

abbrev pub IsFitNumbering : List (List ℕ) → FolderSeen → List ℕ → Status → Option Numbering → Type 0
IsFitNumbering words = IsNumberingOf (fit_name words) (fit_options words)

-- The lines that follow a message that prints no points. For an `.off` file that is not in its grammar, that its first field is a
-- keyword that is not read, where it is one. For a model off the grid, the first point that is off it at the last decimals that are
-- tried is reported: its place in the file, by the line, or by the facet of a binary file, and its coordinates. For
-- points in one plane, that they are, or that the file has none, and that they were rounded, where they were. For a mesh without a
-- tetrahedron, which side is open, that each side is shared, or that hole points carve all of it
abbrev pub TellsUnnamed : List ℕ → Options → FolderSeen → List ℕ → Status → Type 0
TellsUnnamed name options folder hint (BadText file fault) = TellsKeyword (named_surface options) folder name hint
TellsUnnamed name options folder hint (Limit (Grid line)) =
    (input : Input) × ModelAnswer fit_limits folder name options (Ok input)
    × (stated : Stated) × IsStatedBy folder name options stated
    × (m : ℕ) × IsFitted fit_limits (with_origin input options) input m (Err (Limit (Grid line)))
    × (hint ≡ off_grid_text fit_limits.grid (origin_in input) m stated input.nodes.decimals)
TellsUnnamed name options folder hint Flat =
    (input : Input) × ModelAnswer fit_limits folder name options (Ok input)
    × (m : ℕ) × IsFitted fit_limits (with_origin input options) input m (Err Flat)
    × (hint ≡ flat_text (at_decimals m (with_origin input options)) input.nodes.decimals)
TellsUnnamed name options folder hint Empty =
    (input : Input) × ModelAnswer fit_limits folder name options (Ok input)
    × (m : ℕ) × IsEmptyAt (with_origin input options) input m
    × TellsOpening fit_limits (at_decimals m (with_origin input options)) input hint
TellsUnnamed name options folder hint status = Unit {0}

-- these lines follow the message of a mesh, and none that of a check
abbrev pub TellsBehind : Request → List ℕ → Options → FolderSeen → List ℕ → Status → Type 0
TellsBehind Check name options folder hint status = Unit {0}
TellsBehind request name options folder hint status = TellsUnnamed name options folder hint status

-- both
abbrev pub IsKnownBy : Request → List ℕ → Options → FolderSeen → List ℕ → Status → Option Numbering → Type 0
IsKnownBy request name options folder hint status by =
    IsNumberingOf name options folder hint status by × TellsBehind request name options folder hint status

abbrev pub IsKnownOf : List ℕ → Options → FolderSeen → List ℕ → Status → Option Numbering → Type 0
IsKnownOf = IsKnownBy Mesh

abbrev pub IsKnown : List (List ℕ) → FolderSeen → List ℕ → Status → Option Numbering → Type 0
IsKnown words = IsKnownBy (request_of words) (fit_name (others words)) (fit_options (others words))

-- the stages, where they are asked for, and then the message of each answer but Done, which is cut only where it fails itself
abbrev pub IsFitTold : List (List ℕ) → FolderSeen → SinkSeen → Status → Type 0
IsFitTold words folder err status =
    (mid : SinkState) × AreStagesPut words status (until mid err)
    × (hint : List ℕ) × TellsBehind (request_of words) (fit_name (others words)) (fit_options (others words)) folder hint status
    × TellsBy (fit_message (request_of words) (others words) hint) (IsFitNumbering (others words) folder hint) (since mid err) status
