-- The input of a run: its words, and the files that they name.
use Rattle.std.specs.Prelude.{◌≡◌, ℕ, ◌<◌, ◌≤◌, Bool, true, false, List, [], length, Option, None, Some, Result, Ok, Err}
use Rattle.command_words.specs.Grammar.{words_fault}
use Rattle.command_words.specs.Meaning.{options_of}
use Rattle.command_words.specs.Names.{file_name}
use Rattle.command_words.specs.declared.options.Options.{Options}
use Rattle.command_words.specs.declared.options.Extension.{Extension}
use Rattle.command_words.specs.declared.options.Extension.TheVariants.{Node, Poly, Smesh, Off, Stl}
use Rattle.tet_ports.specs.Counts.{Rose}
use Rattle.tet_ports.specs.Files.{Files, Holds, IsAbsent}
use Rattle.tet_text.specs.Lines.{content_lines, line_count_of}
use Rattle.tet_text.specs.declared.fault.TextFault.{TextFault}
use Rattle.node_files.specs.Node.{node_of, IsNodeText}
use Rattle.node_files.specs.declared.limits.Limits.{Limits}
use Rattle.node_files.specs.declared.node_text.NodeText.{NodeText}
use Rattle.plc_files.specs.Checks.{corners_check, HasFewParts}
use Rattle.plc_files.specs.Plc.{plc_of}
use Rattle.plc_files.specs.Sample.{sample_of}
use Rattle.plc_files.specs.Text.{Plc, plc_with}
use Rattle.plc_files.specs.declared.form.Form.{Form}
use Rattle.plc_files.specs.declared.form.Form.TheVariants as form
use Rattle.soup_files.specs.Off.{off_of}
use Rattle.soup_files.specs.Stl.{stl_of}
use Rattle.tet_ports.specs.Seen.{FolderSeen}
use Rattle.run_steps.specs.Steps.{AndThen, IfMissing, Gives}
use Rattle.run_steps.specs.declared.input.ComplexFile.{ComplexFile}
use Rattle.run_steps.specs.declared.input.Input.{Input}
use Rattle.run_steps.specs.declared.status.LimitKind.TheVariants.{Bytes as TooLong}
use Rattle.run_steps.specs.declared.status.Status.{Status}
use Rattle.run_steps.specs.declared.status.Status.TheVariants.{Usage, Missing, ReadFault, BadText, Limit, NoMemory}

-- ---- the words

-- why words give no options
abbrev pub IsUsage : List (List ℕ) → Status → Type 0
IsUsage words (Usage word place) = words_fault words ≡ Some (word, place)
IsUsage words NoMemory = Unit {0}
IsUsage words status = ⊥

-- what words ask for, where they are in the grammar
abbrev pub WordsAnswer : List (List ℕ) → Result Options Status → Type 0
WordsAnswer words (Ok options) = (words_fault words ≡ None) × (options ≡ options_of words)
WordsAnswer words (Err status) = IsUsage words status

-- ---- a file

-- the name holds these bytes, where the files are told, and they are not too many
abbrev pub IsRead : Limits → Option Files → List ℕ → List ℕ → Type 0
IsRead limits files name bytes = Holds files name bytes × (length bytes ≤ limits.bytes)

-- the name holds too many bytes, where the files are told
abbrev pub IsTooLong : Limits → Option Files → List ℕ → Type 0
IsTooLong limits files name = (bytes : List ℕ) × Holds files name bytes × (limits.bytes < length bytes)

-- why a fetch gives no bytes
abbrev pub IsUnfetched : Limits → FolderSeen → List ℕ → Status → Type 0
IsUnfetched limits seen name (Missing missing) = (missing ≡ name) × IsAbsent seen.files_before name seen.misses_before seen.misses_now
IsUnfetched limits seen name (ReadFault failed) = (failed ≡ name) × Rose seen.read_faults_before seen.read_faults_now
IsUnfetched limits seen name (Limit (TooLong long most)) = (long ≡ name) × IsTooLong limits seen.files_before name × (most ≡ limits.bytes)
IsUnfetched limits seen name NoMemory = Unit {0}
IsUnfetched limits seen name status = ⊥

-- the bytes of a file
abbrev pub FetchAnswer : Limits → FolderSeen → List ℕ → Result (List ℕ) Status → Type 0
FetchAnswer limits seen name (Ok bytes) = IsRead limits seen.files_before name bytes
FetchAnswer limits seen name (Err status) = IsUnfetched limits seen name status

-- why a text is refused, whose reading is given
abbrev pub IsBadText : {A : Type 0} → List ℕ → Result A TextFault → Status → Type 0
IsBadText name reading (BadText bad fault) = (bad ≡ name) × (reading ≡ Err fault)
IsBadText name reading NoMemory = Unit {0}
IsBadText name reading status = ⊥

-- what a text spells, whose reading is given
abbrev pub TextAnswer : {A : Type 0} → List ℕ → Result A TextFault → Result A Status → Type 0
TextAnswer name reading (Ok text) = reading ≡ Ok text
TextAnswer name reading (Err status) = IsBadText name reading status

-- ---- points

-- the point list that the bytes of a file spell, or the first fault
abbrev pub node_text_of : List ℕ → Result NodeText TextFault
node_text_of bytes = node_of (line_count_of bytes) (content_lines bytes)

-- the point list of the `.node` file with this base
abbrev pub PointsAnswer : Limits → FolderSeen → List ℕ → Result NodeText Status → Type 0
PointsAnswer limits seen base =
    AndThen (FetchAnswer limits seen (file_name base Node)) (λ bytes. TextAnswer (file_name base Node) (node_text_of bytes))

-- ---- complexes

-- the form of a `.poly` or `.smesh` file by its extension
abbrev pub form_of : Extension → Form
form_of Smesh = form.Smesh
form_of extension = form.Poly

-- the complex that the bytes of a file spell, or the first fault
abbrev pub plc_text_of : Extension → List ℕ → Result Plc TextFault
plc_text_of Off bytes = off_of (line_count_of bytes) (content_lines bytes)
plc_text_of Stl bytes = stl_of (line_count_of bytes) (content_lines bytes)
plc_text_of extension bytes = plc_of (form_of extension) (line_count_of bytes) (content_lines bytes)

-- a complex and the name of its file
abbrev pub complex_file : List ℕ → Plc → ComplexFile
complex_file name text = record { name = name; text = text }

-- the complex of the file with this base and extension
abbrev pub FormAnswer : Limits → FolderSeen → List ℕ → Extension → Result ComplexFile Status → Type 0
FormAnswer limits seen base extension =
    let name = file_name base extension in
    AndThen (FetchAnswer limits seen name) (λ bytes. AndThen (TextAnswer name (plc_text_of extension bytes))
    (λ text. Gives (complex_file name text)))

-- the complex of the file with this base: with no extension that of its `.poly` file, or where there is none of its `.smesh` file
abbrev pub ComplexFileAnswer : Limits → FolderSeen → List ℕ → Option Extension → Result ComplexFile Status → Type 0
ComplexFileAnswer limits seen base (Some Smesh) = FormAnswer limits seen base Smesh
ComplexFileAnswer limits seen base (Some Poly) = FormAnswer limits seen base Poly
ComplexFileAnswer limits seen base (Some Off) = FormAnswer limits seen base Off
ComplexFileAnswer limits seen base (Some Stl) = FormAnswer limits seen base Stl
ComplexFileAnswer limits seen base extension = IfMissing (FormAnswer limits seen base Poly) (FormAnswer limits seen base Smesh)

-- the sample, which has no file, or the complex of a file
abbrev pub SourceAnswer : Limits → FolderSeen → List ℕ → Option Extension → Option ℕ → Result ComplexFile Status → Type 0
SourceAnswer limits seen base extension (Some n) = Gives (complex_file [] (sample_of n))
SourceAnswer limits seen base extension None = ComplexFileAnswer limits seen base extension

-- the complex's own points, or, where it has none, those of the `.node` file with the same base
abbrev pub NodesAnswer : Limits → FolderSeen → List ℕ → Option NodeText → Result NodeText Status → Type 0
NodesAnswer limits seen base (Some nodes) = Gives nodes
NodesAnswer limits seen base None = PointsAnswer limits seen base

-- points alone, and a complex on its points
abbrev pub points_alone : NodeText → Input
points_alone nodes = record { nodes = nodes; complex = plc_with None }

abbrev pub on_points : ComplexFile → NodeText → Input
on_points file nodes = record { nodes = nodes; complex = record file.text { nodes = None } }

-- the complex on its points, where each corner is one of them
abbrev pub BoundedAnswer : ComplexFile → NodeText → Result Input Status → Type 0
BoundedAnswer file nodes =
    AndThen (TextAnswer file.name (corners_check nodes.first (length nodes.decimals) file.text))
    (λ checked. Gives (on_points file nodes))

-- ---- the input

-- points alone, or a complex on its points
abbrev pub InputOf : Limits → Bool → FolderSeen → Options → Result Input Status → Type 0
InputOf limits false seen options = AndThen (PointsAnswer limits seen options.base) (λ nodes. Gives (points_alone nodes))
InputOf limits true seen options =
    AndThen (SourceAnswer limits seen options.base options.extension options.sample)
    (λ file. AndThen (NodesAnswer limits seen options.base file.text.nodes) (BoundedAnswer file))

-- the input that the options name
abbrev pub InputAnswer : Limits → FolderSeen → Options → Result Input Status → Type 0
InputAnswer limits seen options = InputOf limits options.piecewise seen options

-- the requirements of the steps after reading on an input
pub record IsSound (input : Input) : Type 0 where
  pub nodes : IsNodeText input.nodes
  pub few : HasFewParts input.complex
  pub corners : corners_check input.nodes.first (length input.nodes.decimals) input.complex ≡ Ok tt
