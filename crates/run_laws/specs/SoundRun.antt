-- The mesh of a run has no defect.
use Rattle.std.specs.Prelude.{◌≡◌, ℕ, Bool, false, List, Ok}
use Rattle.command_words.specs.Meaning.{options_of}
use Rattle.command_words.specs.declared.options.Options.{Options}
use Rattle.mesh_files.specs.FaceRows.{AreFaceRowsOf}
use Rattle.mesh_files.specs.declared.markers.FaceRow.{FaceRow}
use Rattle.mesh_check.specs.Defects.{IsVerdict}
use Rattle.mesh_check.specs.declared.defect.Verdict.TheVariants.{Sound}
use Rattle.run_laws.specs.WrittenMesh.{written_mesh}
use Rattle.run_steps.specs.Meshing.{MeshAnswer}
use Rattle.run_steps.specs.Outputs.{AreFirstOutputsOf, face_file}
use Rattle.run_steps.specs.declared.mesh.Bound.{Bound}
use Rattle.run_steps.specs.declared.meshed.Meshed.{Meshed}
use Rattle.run_steps.specs.declared.outputs.Outputs.{Outputs}
use Rattle.tet_ports.specs.Seen.{FolderSeen}
use Rattle.tetgen_run.specs.Run.{IsMeshOfRun}

-- The mesh of a run that asks for no weights, with the faces on its hull and in facets, or all faces, has no defect
abbrev pub SoundRunLaw : Type 0
SoundRunLaw = (options : Options) (bound : Bound) (mesh : Meshed) → options.weighted ≡ false → MeshAnswer options bound (Ok mesh)
    → (all : Bool) (faces : List FaceRow) → AreFaceRowsOf mesh.points mesh.tetrahedra mesh.complex mesh.triangles all faces
    → IsVerdict (written_mesh mesh.points mesh.tetrahedra faces) Sound

-- the face file among the outputs has the faces of a mesh without a defect
pub record HasSoundFaces (options : Options) (mesh : Meshed) (outputs : Outputs) : Type 0 where
  pub faces : List FaceRow
  pub written : outputs.texts.face ≡ face_file options mesh faces
  pub sound : IsVerdict (written_mesh mesh.points mesh.tetrahedra faces) Sound

-- Where the outputs have a face file of first order, it has the faces of a mesh without a defect
abbrev pub SoundOutputsLaw : Type 0
SoundOutputsLaw = (options : Options) (bound : Bound) (mesh : Meshed) (outputs : Outputs) → options.weighted ≡ false
    → MeshAnswer options bound (Ok mesh) → AreFirstOutputsOf options mesh outputs → options.no_face ≡ false
    → HasSoundFaces options mesh outputs

-- The face file that a run leaves has the faces of a mesh without a defect, the one mesh of the input that its words
-- name
abbrev pub SoundLeftLaw : Type 0
SoundLeftLaw = (words : List (List ℕ)) (folder : FolderSeen) (outputs : Outputs) (run : IsMeshOfRun words folder outputs)
    → (options_of words).weighted ≡ false → (options_of words).no_face ≡ false → HasSoundFaces (options_of words) run.mesh outputs
