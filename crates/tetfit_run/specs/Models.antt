-- The input that is read of a model.
use Rattle.std.specs.Prelude.{◌≡◌, ℕ, List, Option, Some, None, Result, Ok, Err, if◌then◌else◌}
use Rattle.command_words.specs.declared.options.Extension.{Extension}
use Rattle.command_words.specs.declared.options.Extension.TheVariants.{Off, Stl}
use Rattle.command_words.specs.declared.options.Options.{Options}
use Rattle.node_files.specs.declared.limits.Limits.{Limits}
use Rattle.plc_files.specs.Text.{Plc}
use Rattle.run_steps.specs.Reading.{FetchAnswer, TextAnswer, NodesAnswer, BoundedAnswer, InputAnswer, complex_file}
use Rattle.tet_ports.specs.Seen.{FolderSeen}
use Rattle.run_steps.specs.Steps.{AndThen, Gives}
use Rattle.run_steps.specs.declared.input.ComplexFile.{ComplexFile}
use Rattle.run_steps.specs.declared.input.Input.{Input}
use Rattle.run_steps.specs.declared.status.Status.{Status}
use Rattle.soup_files.specs.BinaryStl.{is_binary_stl, binary_stl_of}
use Rattle.soup_files.specs.Off.{wide_off_of}
use Rattle.soup_files.specs.Solids.{wide_stl_of}
use Rattle.tet_ports.specs.Files.{Holds}
use Rattle.tet_text.specs.Decimals.{Scaled}
use Rattle.tet_text.specs.declared.fault.TextFault.{TextFault}
use Rattle.tet_text.specs.Lines.{content_lines, line_count_of}
use Rattle.tetfit_run.specs.Measured.{MovedAnswer}
use Rattle.tetfit_run.specs.declared.model.Model.{Model}
use Rattle.tetfit_run.specs.declared.model.Stated.{Stated}
use Rattle.tetfit_run.specs.declared.model.Stated.TheVariants.{Lines, Facets}

-- the complex that the bytes of an `.stl` or `.off` file spell, where a binary `.stl` file is known by its length
abbrev pub surface_text_of : Extension → List ℕ → Result Plc TextFault
surface_text_of Stl bytes = if is_binary_stl bytes then binary_stl_of bytes else wide_stl_of (line_count_of bytes) (content_lines bytes)
surface_text_of form bytes = wide_off_of (line_count_of bytes) (content_lines bytes)

-- the extensions of surfaces
abbrev pub surface_form : Option Extension → Option Extension
surface_form (Some Off) = Some Off
surface_form (Some Stl) = Some Stl
surface_form extension = None

-- the extension of the surface that the options name, unless they name none
abbrev pub named_surface : Options → Option Extension
named_surface options = if options.piecewise then surface_form options.extension else None

-- the complex of the surface in the file with this name
abbrev pub SurfaceAnswer : Limits → FolderSeen → List ℕ → Extension → Result ComplexFile Status → Type 0
SurfaceAnswer limits seen name form =
    AndThen (FetchAnswer limits seen name)
    (λ bytes. AndThen (TextAnswer name (surface_text_of form bytes)) (λ text. Gives (complex_file name text)))

-- the input of the surface in the file with this name, whose base is this
abbrev pub SurfaceInputAnswer : Limits → FolderSeen → List ℕ → List ℕ → Extension → Result Input Status → Type 0
SurfaceInputAnswer limits seen name base form =
    AndThen (SurfaceAnswer limits seen name form) (λ file. AndThen (NodesAnswer limits seen base file.text.nodes) (BoundedAnswer file))

-- what is read, by the surface that is named: it is in the file with this name
abbrev pub ModelBy : Option Extension → Limits → FolderSeen → List ℕ → Options → Result Input Status → Type 0
ModelBy (Some form) limits seen name options = SurfaceInputAnswer limits seen name options.base form
ModelBy None limits seen name options = InputAnswer limits seen options

-- what is read of the model that the options name, where a surface is in the file with this name
abbrev pub ReadAnswer : Limits → FolderSeen → List ℕ → Options → Result Input Status → Type 0
ReadAnswer limits seen name options = ModelBy (named_surface options) limits seen name options

-- that model, with its points rounded to multiples of the unit, where the options have one, and with its hole points and region points
-- measured from its origin
abbrev pub ModelAnswer : Limits → FolderSeen → List ℕ → Options → Result Input Status → Type 0
ModelAnswer limits seen name options = AndThen (ReadAnswer limits seen name options) (MovedAnswer options.unit)

-- the model that is made of what was read
abbrev pub MovedFrom : Option Scaled → Result Input Status → Result Input Status → Type 0
MovedFrom unit (Ok input) moved = MovedAnswer unit input moved
MovedFrom unit (Err status) moved = moved ≡ Err status

-- the input of a model that is read
abbrev pub input_in : Result Model Status → Result Input Status
input_in (Ok model) = Ok model.input
input_in (Err status) = Err status

-- ---- what the places of points in a file count

-- places count the facets of a binary `.stl` file, and the lines of a text
abbrev pub stated_of : Extension → List ℕ → Stated
stated_of Stl bytes = if is_binary_stl bytes then Facets else Lines
stated_of form bytes = Lines

-- the unit of the places in the surface in the file with this name: facets in a binary `.stl` file, lines in a text
abbrev pub IsStatedInSurface : FolderSeen → List ℕ → Extension → Stated → Type 0
IsStatedInSurface seen name form stated =
    (bytes : List ℕ) × Holds seen.files_before name bytes × (stated ≡ stated_of form bytes)

-- by the surface that is named
abbrev pub IsStatedIf : Option Extension → FolderSeen → List ℕ → Stated → Type 0
IsStatedIf (Some form) seen name stated = IsStatedInSurface seen name form stated
IsStatedIf None seen name stated = stated ≡ Lines

-- the unit of the places in the file of the model that the options name, where a surface is in the file with this name
abbrev pub IsStatedBy : FolderSeen → List ℕ → Options → Stated → Type 0
IsStatedBy seen name options stated = IsStatedIf (named_surface options) seen name stated
