-- The files and the summary of a refined mesh.
use Rattle.std.specs.Prelude.{◌≡◌, ℕ, List, length, Result, Ok, Err}
use Rattle.std.specs.Option.{option_map}
use Rattle.sign_predicates.specs.Point.{Point}
use Rattle.command_words.specs.declared.options.Options.{Options}
use Rattle.node_files.specs.declared.limits.Limits.{Limits}
use Rattle.plc_files.specs.Text.{limits_of}
use Rattle.refining.specs.Corners.{AreCorners}
use Rattle.refining.specs.Counts.{counts_of}
use Rattle.refining.specs.Goals.{shape_bounds}
use Rattle.refining.specs.Refined.{MeshAnswerWith}
use Rattle.refining.specs.declared.goal.Goal.{Goal}
use Rattle.refining.specs.declared.goal.ShapeBounds.{ShapeBounds}
use Rattle.refining.specs.declared.counts.Counts.{Counts}
use Rattle.run_steps.specs.Meshing.{BoundAnswer, MeshAnswer}
use Rattle.run_steps.specs.Outputs.{AreOutputsOf}
use Rattle.run_steps.specs.Steps.{AndThen}
use Rattle.run_steps.specs.declared.input.Input.{Input}
use Rattle.run_steps.specs.declared.mesh.Bound.{Bound}
use Rattle.run_steps.specs.declared.meshed.Meshed.{Meshed}
use Rattle.run_steps.specs.declared.outputs.Outputs.{Outputs}
use Rattle.run_steps.specs.declared.report.Report.{Report}
use Rattle.run_steps.specs.declared.report.Report.TheVariants.{Mesh, Text}
use Rattle.run_steps.specs.declared.status.Status.{Status}
use Rattle.run_steps.specs.declared.status.Status.TheVariants.{NoMemory}

-- how many of all tetrahedra of a mesh are beyond each bound
abbrev pub counts_in : ShapeBounds → Meshed → Counts
counts_in shapes mesh = counts_of shapes mesh.points mesh.tetrahedra mesh.marks

-- the report of a mesh with these numbers of its tetrahedra
abbrev pub counted_told : Counts → Report → Report
counted_told counts (Mesh summary notes) = Mesh (record summary { over = counts.over; slim = counts.slim; flat = counts.flat }) notes
counted_told counts (Text text) = Text text

-- the outputs of a mesh with those numbers in the summary
abbrev pub with_counts : Counts → Outputs → Outputs
with_counts counts outputs = record outputs { report = option_map (counted_told counts) outputs.report }

-- the outputs of a mesh, whose summary has the number of all its tetrahedra that are beyond each bound
abbrev pub AreCountedOf : ShapeBounds → Options → Meshed → Outputs → Type 0
AreCountedOf shapes options mesh outputs =
    (made : Outputs) × AreOutputsOf options mesh made
    × (outputs ≡ with_counts (counts_in shapes mesh) made)

abbrev pub CountedAnswer : ShapeBounds → Options → Meshed → Result Outputs Status → Type 0
CountedAnswer shapes options mesh (Ok outputs) = AreCountedOf shapes options mesh outputs
CountedAnswer shapes options mesh (Err status) = status ≡ NoMemory

-- the outputs of a mesh with some points behind those of the complex, each of which is a corner; the only refusal is out of memory
abbrev pub RefinedAnswer : ShapeBounds → Options → Bound → Result Outputs Status → Type 0
RefinedAnswer shapes options bound (Ok outputs) =
    (more : List Point) × (halvings : ℕ) × (mesh : Meshed) × MeshAnswerWith more halvings options bound mesh
    × AreCorners (length bound.table.points) (length more) mesh.tetrahedra × AreCountedOf shapes options mesh outputs
RefinedAnswer shapes options bound (Err status) = status ≡ NoMemory

-- the outputs of a mesh of an input that has none without further points
abbrev pub ConformingMeshed : Goal → Limits → Options → Input → Outputs → Type 0
ConformingMeshed goal limits options input outputs =
    (bound : Bound) × BoundAnswer limits options input (Ok bound)
    × RefinedAnswer (shape_bounds bound goal (limits_of input.complex)) options bound (Ok outputs)

-- The complex has a mesh without further points, and then there are outputs of one with some. Each refusal is one of the first
abbrev pub RefinedMade : ShapeBounds → Options → Bound → Result Outputs Status → Type 0
RefinedMade shapes options bound = AndThen (MeshAnswer options bound) (λ plain. RefinedAnswer shapes options bound)

-- the outputs of an input, where tetrahedra over the bounds of a goal and over the limits of their regions are counted
abbrev pub RefinedMeshed : Goal → Limits → Options → Input → Result Outputs Status → Type 0
RefinedMeshed goal limits options input =
    AndThen (BoundAnswer limits options input) (λ bound. RefinedMade (shape_bounds bound goal (limits_of input.complex)) options bound)
