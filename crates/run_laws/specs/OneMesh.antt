-- A complex has one mesh, an input one mesh and one set of outputs, and a run over told files leaves one set of files.
use Rattle.std.specs.Prelude.{◌≡◌, ◌≤◌, ℕ, false, List, Some, Ok}
use Rattle.sign_predicates.specs.Point.{Point}
use Rattle.command_words.specs.declared.options.Options.{Options}
use Rattle.geo_laws.specs.Complex.{Complex}
use Rattle.complex_mesh.specs.Meshing.{IsComplexMesh}
use Rattle.complex_mesh.specs.Protection.{IsMeshable}
use Rattle.complex_mesh.specs.declared.mesh.ComplexMesh.{ComplexMesh}
use Rattle.complex_mesh.specs.declared.mesh.MeshOptions.{MeshOptions}
use Rattle.node_files.specs.Limits.{AreIndexable, tetgen_limits}
use Rattle.node_files.specs.declared.limits.Limits.{Limits}
use Rattle.tet_ports.specs.Files.{Files}
use Rattle.tet_ports.specs.Seen.{FolderSeen, SinkSeen}
use Rattle.run_steps.specs.Meshing.{IsMeshableBound, MeshAnswer, MeshedAnswer, OutputsOfRun}
use Rattle.run_steps.specs.Reading.{IsSound}
use Rattle.run_steps.specs.declared.input.Input.{Input}
use Rattle.run_steps.specs.declared.mesh.Bound.{Bound}
use Rattle.run_steps.specs.declared.meshed.Meshed.{Meshed}
use Rattle.run_steps.specs.declared.outputs.Outputs.{Outputs}
use Rattle.run_steps.specs.declared.status.Status.TheVariants.{Done}
use Rattle.tetgen_run.specs.Run.{IsLeft, asks_check}

-- Two meshes of a complex have the same points, triangles, tetrahedra and marks
abbrev pub OneMeshLaw : Type 0
OneMeshLaw = (o : MeshOptions) (ps : List Point) (c : Complex) (m other : ComplexMesh) → IsMeshable o.halvings o.budget ps c
    → IsComplexMesh o ps c m → IsComplexMesh o ps c other → m ≡ other

-- What is on its grid has one mesh: points alone, weighted points, or a complex
abbrev pub OneMeshedLaw : Type 0
OneMeshedLaw = (options : Options) (bound : Bound) (mesh other : Meshed) → IsMeshableBound options bound
    → MeshAnswer options bound (Ok mesh) → MeshAnswer options bound (Ok other) → mesh ≡ other

-- Two outputs of a sound input by the same options are the same, byte for byte
abbrev pub OneOutputsLaw : Type 0
OneOutputsLaw = (limits : Limits) (options : Options) (input : Input) (outputs other : Outputs) → AreIndexable limits
    → options.budget ≤ 100000 → IsSound input
    → MeshedAnswer limits options input (Ok outputs) → MeshedAnswer limits options input (Ok other) → outputs ≡ other

-- Two runs by the same words over folders that hold the same files have the same outputs
abbrev pub OneRunLaw : Type 0
OneRunLaw = (words : List (List ℕ)) (told : Files) (one two : FolderSeen) (outputs other : Outputs)
    → one.files_before ≡ Some told → two.files_before ≡ Some told
    → OutputsOfRun tetgen_limits words one (Ok outputs) → OutputsOfRun tetgen_limits words two (Ok other) → outputs ≡ other

-- Two such runs that are done leave the same files, and the same bytes where they write their summaries
abbrev pub OneLeftLaw : Type 0
OneLeftLaw = (words : List (List ℕ)) (told : Files) (one two : FolderSeen) (first second : SinkSeen) → asks_check words ≡ false
    → one.files_before ≡ Some told → two.files_before ≡ Some told → first.written_before ≡ second.written_before
    → IsLeft words one first Done → IsLeft words two second Done
    → (one.files_now ≡ two.files_now) × (first.written_now ≡ second.written_now)
