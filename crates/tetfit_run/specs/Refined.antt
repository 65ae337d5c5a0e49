-- What the files of a refined mesh spell.
use Rattle.std.specs.Prelude.{◌≡◌, ℕ, List, length, Result, Ok, Err}
use Rattle.sign_predicates.specs.Point.{Point}
use Rattle.command_words.specs.declared.options.Options.{Options}
use Rattle.geo_laws.specs.Mesh.{IsMesh}
use Rattle.node_files.specs.declared.limits.Limits.{Limits}
use Rattle.plc_files.specs.Text.{limits_of}
use Rattle.path_laws.specs.Flood.{carving_of}
use Rattle.refining.specs.Corners.{AreCorners}
use Rattle.refining.specs.Goals.{shape_bounds}
use Rattle.refining.specs.Outputs.{counts_in, with_counts}
use Rattle.refining.specs.Refined.{MeshAnswerWith}
use Rattle.refining.specs.declared.goal.Goal.{Goal}
use Rattle.run_steps.specs.Meshing.{BoundAnswer, MeshAnswer}
use Rattle.run_steps.specs.Outputs.{AreOutputsOf}
use Rattle.run_steps.specs.declared.input.Input.{Input}
use Rattle.run_steps.specs.declared.mesh.Bound.{Bound}
use Rattle.run_steps.specs.declared.meshed.Meshed.{Meshed}
use Rattle.run_steps.specs.declared.outputs.Outputs.{Outputs}
use Rattle.run_steps.specs.declared.status.Status.{Status}
use Rattle.run_steps.specs.declared.status.Status.TheVariants.{NoMemory}
use Rattle.tetfit_run.specs.Measured.{BoundTried}
use Rattle.tetfit_run.specs.Outputs.{fit_limits}
use Rattle.tetfit_run.specs.declared.refined.Bounded.{Bounded}
use Rattle.tetgen_run.specs.Run.{IsDetermined}

-- the points and the complex of an input on their grid, as it is tried with options, and the bounds on tetrahedra
abbrev pub BoundedTried : Goal → Options → Input → Result Bounded Status → Type 0
BoundedTried goal options input (Ok made) =
    BoundTried fit_limits options input (Ok made.bound) × (made.shapes ≡ shape_bounds made.bound goal (limits_of input.complex))
BoundedTried goal options input (Err NoMemory) = Unit {0}
BoundedTried goal options input (Err status) = BoundTried fit_limits options input (Err status)

-- the complex has a mesh without further points
abbrev pub HasBareMesh : Options → Bound → Type 0
HasBareMesh options bound = (plain : Meshed) × MeshAnswer options bound (Ok plain)

-- The outputs are those of one mesh of an input that is read as `Read` says, of words that are understood as `Understood` says: the mesh of
-- its complex with more points behind its own, which differ from them and whose coordinates can be halved `halvings` times. All that
-- `IsMeshBy` says of the mesh of a complex holds of this mesh and those points, and each of them is a corner of a tetrahedron. `Bare` is
-- what is known of the complex without them. The summary has the numbers of tetrahedra that are over the volume or the limit of their
-- region, over the ratio, and below the angle, of those that are given
pub record IsRefinedMeshBy (goal : Goal) (limits : Limits) (options : Options) (Understood : Type 0) (Read : Input → Type 0)
    (Bare : Bound → Type 0) (outputs : Outputs) : Type 0 where
  pub understood : Understood
  pub input : Input
  pub read : Read input
  pub bound : Bound
  pub on_grid : BoundAnswer limits options input (Ok bound)
  pub bare : Bare bound
  pub more : List Point
  pub halvings : ℕ
  pub mesh : Meshed
  pub made : MeshAnswerWith more halvings options bound mesh
  pub corners : AreCorners (length bound.table.points) (length more) mesh.tetrahedra
  pub whole : IsMesh (carving_of options.keep_hull) mesh.points mesh.triangles mesh.complex.holes mesh.tetrahedra
  pub written : Outputs
  pub outputs_are : AreOutputsOf options mesh written
  pub only : (other : Outputs) → AreOutputsOf options mesh other → other ≡ written
  pub counts : outputs ≡ with_counts (counts_in (shape_bounds bound goal (limits_of input.complex)) mesh) written
  pub determined : IsDetermined options mesh
