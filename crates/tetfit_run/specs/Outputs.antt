-- The requests that the words of `tetfit` make, and their outputs.
use Rattle.std.specs.Prelude.{◌≡◌, ◌⊎◌, ℕ, true, false, List, Option, Some, None, Result, Ok, Err}
use Rattle.std.specs.Option.{option_map}
use Rattle.command_words.specs.declared.options.Options.{Options}
use Rattle.tetfit_run.specs.Measured.{IsInPlaceOf, IsTried, tried, with_origin}
use Rattle.tetfit_run.specs.Models.{ModelAnswer}
use Rattle.tetfit_run.specs.Hints.{moved_text}
use Rattle.tetfit_run.specs.Opening.{is_empty}
use Rattle.tetfit_run.specs.Trying.{IsFitted, IsRefusedByGrid, at_decimals}
use Rattle.refining.specs.Outputs.{ConformingMeshed, RefinedMeshed}
use Rattle.refining.specs.declared.goal.Goal.{Goal}
use Rattle.tetfit_run.specs.Checks.{OutputsOfCheck, reported}
use Rattle.tetfit_run.specs.Words.{fit_fault, fit_wanted, others, request_of}
use Rattle.tetfit_run.specs.declared.page.TheConstants.{PAGE, VERSION}
use Rattle.tetfit_run.specs.declared.request.Request.{Request}
use Rattle.tetfit_run.specs.declared.request.Request.TheVariants.{Page, Version, Check, Mesh}
use Rattle.tetfit_run.specs.declared.wanted.Wanted.{Wanted}
use Rattle.node_files.specs.declared.limits.Limits.{Limits}
use Rattle.tet_ports.specs.Seen.{FolderSeen}
use Rattle.run_steps.specs.Steps.{AndThen}
use Rattle.run_steps.specs.declared.input.Input.{Input}
use Rattle.run_steps.specs.declared.outputs.Outputs.{Outputs}
use Rattle.run_steps.specs.declared.report.Report.{Report}
use Rattle.run_steps.specs.declared.report.Report.TheVariants.{Mesh as MeshReport, Text}
use Rattle.run_steps.specs.declared.status.Status.{Status}
use Rattle.run_steps.specs.declared.status.Status.TheVariants.{Usage, Empty, NoMemory}

-- the limits of the program: 2^30 bytes of a file, 4,000,000 points and facets, 1,000,000 corners of a polygon, and coordinates up to 2^29
-- in size
abbrev pub fit_limits : Limits
fit_limits = record { bytes = 1073741824; points = 4000000; facets = 4000000; corners = 1000000; grid = 536870912 }

-- ---- the words, without those that ask for the stages

-- why words give no options
abbrev pub IsFitUsage : List (List ℕ) → Status → Type 0
IsFitUsage words (Usage word place) = fit_fault words ≡ Some (word, place)
IsFitUsage words NoMemory = Unit {0}
IsFitUsage words status = ⊥

-- what words ask for
abbrev pub FitWordsAnswer : List (List ℕ) → Result Wanted Status → Type 0
FitWordsAnswer words (Ok wanted) = (fit_fault words ≡ None) × (wanted ≡ fit_wanted words)
FitWordsAnswer words (Err status) = IsFitUsage words status

-- ---- the mesh

-- the report of a mesh with the number of decimals in its summary, and with these lines behind it
abbrev pub fitted_told : ℕ → List ℕ → Report → Report
fitted_told decimals more (MeshReport summary notes) = MeshReport (record summary { decimals = Some decimals }) more
fitted_told decimals more (Text text) = Text text

-- the outputs of a mesh with them
abbrev pub outputs_at : ℕ → List ℕ → Outputs → Outputs
outputs_at decimals more outputs = record outputs { report = option_map (fitted_told decimals more) outputs.report }

-- The outputs in the end, with coordinates rounded to n decimals: those of the mesh that is fitted, at m decimals; or,
-- where tetrahedra are bounded, those of a mesh with points behind those of the model, at n in place of m
abbrev pub IsFinalBy : Option Goal → Options → Input → ℕ → Outputs → ℕ → Outputs → Type 0
IsFinalBy None options input m made n final = (n ≡ m) × (final ≡ made)
IsFinalBy (Some goal) options input m made n final =
    IsInPlaceOf options.decimals m n
    × RefinedMeshed goal fit_limits (at_decimals n options) (tried (at_decimals n options) input) (Ok final)

-- the input is fitted at so many decimals, where its mesh has no tetrahedron
pub record IsEmptyAt (options : Options) (input : Input) (decimals : ℕ) : Type 0 where
  pub made : Outputs
  pub fitted : IsFitted fit_limits options input decimals (Ok made)
  pub empty : is_empty made ≡ true

-- the outputs of an input that is fitted, where its mesh has a tetrahedron
pub record IsMeshedTo (wanted : Wanted) (input : Input) (outputs : Outputs) : Type 0 where
  pub decimals : ℕ
  pub made : Outputs
  pub fitted : IsFitted fit_limits wanted.options input decimals (Ok made)
  pub some : is_empty made ≡ false
  pub n : ℕ
  pub final : Outputs
  pub final_by : IsFinalBy wanted.goal wanted.options input decimals made n final
  pub is : outputs ≡ outputs_at n (moved_text wanted.options n input.nodes.decimals) final

-- at some number of decimals that is tried the grid refuses the input
pub record IsOffSomeGrid (options : Options) (input : Input) : Type 0 where
  pub decimals : ℕ
  pub within : IsTried options input decimals
  pub refused : IsRefusedByGrid fit_limits options input decimals

-- The input is refused, and at some number of decimals by the grid. The outputs are those of a mesh with points behind those of the
-- model, at n decimals, which has a tetrahedron
pub record IsConformedAt (goal : Goal) (options : Options) (input : Input) (n : ℕ) (final : Outputs) : Type 0 where
  pub decimals : ℕ
  pub status : Status
  pub fitted : IsFitted fit_limits options input decimals (Err status)
  pub off_grid : IsOffSomeGrid options input
  pub within : IsTried options input n
  pub made : ConformingMeshed goal fit_limits (at_decimals n options) (tried (at_decimals n options) input) final
  pub some : is_empty final ≡ false

-- such outputs, where tetrahedra are bounded
abbrev pub IsConformedBy : Option Goal → Options → Input → ℕ → Outputs → Type 0
IsConformedBy None options input n final = ⊥
IsConformedBy (Some goal) options input n final = IsConformedAt goal options input n final

abbrev pub IsConformedTo : Wanted → Input → Outputs → Type 0
IsConformedTo wanted input outputs =
    (n : ℕ) × (final : Outputs) × IsConformedBy wanted.goal wanted.options input n final
    × (outputs ≡ outputs_at n (moved_text wanted.options n input.nodes.decimals) final)

-- The outputs of an input, or its refusal, at as many decimals as the grid does not refuse; a mesh without a tetrahedron
-- is refused. Where tetrahedra are bounded and the grid refuses the input at some number of decimals, the outputs of a refused input
-- may be those of a mesh with points behind its own. Behind the summary a line says by how much coordinates moved at most, where they
-- were rounded
abbrev pub IsFittedTo : Wanted → Input → Result Outputs Status → Type 0
IsFittedTo wanted input (Ok outputs) = IsMeshedTo wanted input outputs ⊎ IsConformedTo wanted input outputs
IsFittedTo wanted input (Err Empty) = (decimals : ℕ) × IsEmptyAt wanted.options input decimals
IsFittedTo wanted input (Err status) = (decimals : ℕ) × IsFitted fit_limits wanted.options input decimals (Err status)

-- what is wanted, with coordinates measured from the origin of the model
abbrev pub wanted_from : Input → Wanted → Wanted
wanted_from input wanted = record wanted { options = with_origin input wanted.options }

-- the model that the options name is read, and the outputs of its mesh are made
abbrev pub OutputsOfWanted : Wanted → FolderSeen → Result Outputs Status → Type 0
OutputsOfWanted wanted folder =
    AndThen (ModelAnswer fit_limits folder wanted.name wanted.options) (λ input. IsFittedTo (wanted_from input wanted) input)

-- the words are read, and then the outputs of the model that they name are made: each refusal is one of the first step that refuses
abbrev pub OutputsOfModel : List (List ℕ) → FolderSeen → Result Outputs Status → Type 0
OutputsOfModel words folder = AndThen (FitWordsAnswer words) (λ wanted. OutputsOfWanted wanted folder)

-- ---- what is asked for

-- outputs without files, whose text is written in place of the summary
abbrev pub said : List ℕ → Outputs
said text = reported (Some (Text text))

-- the text, or out of memory
abbrev pub Says : List ℕ → Result Outputs Status → Type 0
Says text (Ok outputs) = outputs ≡ said text
Says text (Err status) = status ≡ NoMemory

-- the outputs of a request
abbrev pub MadeBy : Request → List (List ℕ) → FolderSeen → Result Outputs Status → Type 0
MadeBy Page words folder = Says PAGE.now
MadeBy Version words folder = Says VERSION.now
MadeBy Check words folder = OutputsOfCheck (others words) folder
MadeBy Mesh words folder = OutputsOfModel (others words) folder

-- what the words ask for
abbrev pub OutputsOfFit : List (List ℕ) → FolderSeen → Result Outputs Status → Type 0
OutputsOfFit words = MadeBy (request_of words) words
