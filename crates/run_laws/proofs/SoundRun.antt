-- The mesh of a run is that of a complex, or the Delaunay list of points.
use Rattle.std.proofs.Common.{◌≡◌, Bool, true, false, List, sym, subst}
use Rattle.std.specs.Prelude.{Ok}
use Rattle.command_words.specs.Formats.{asks_whole}
use Rattle.command_words.specs.Meaning.{options_of}
use Rattle.command_words.specs.declared.options.Options.{Options}
use Rattle.mesh_files.specs.FaceRows.{AreFaceRowsOf}
use Rattle.mesh_files.specs.declared.markers.FaceRow.{FaceRow}
use Rattle.mesh_check.specs.Defects.{IsVerdict}
use Rattle.mesh_check.specs.declared.defect.Verdict.TheVariants.{Sound}
use Rattle.run_laws.specs.WrittenMesh.{written_mesh}
use Rattle.run_laws.proofs.SoundMeshes.{sound_points, sound_complex}
use Rattle.run_steps.proofs.Asked.{asked_by_face}
use Rattle.run_steps.specs.Meshing.{MeshOf, PointsMeshOf}
use Rattle.run_steps.specs.declared.mesh.Bound.{Bound}
use Rattle.run_steps.specs.declared.meshed.Meshed.{Meshed}
use Rattle.run_laws.specs.SoundRun.{SoundRunLaw, SoundOutputsLaw, SoundLeftLaw}

-- what is written of the mesh has no defect
abbrev IsWellWritten : Meshed → Type 0
IsWellWritten mesh = (all : Bool) (faces : List FaceRow) → AreFaceRowsOf mesh.points mesh.tetrahedra mesh.complex mesh.triangles all faces
    → IsVerdict (written_mesh mesh.points mesh.tetrahedra faces) Sound

by_mesh : (piecewise : Bool) (options : Options) (bound : Bound) (mesh : Meshed) → options.weighted ≡ false
    → MeshOf piecewise options bound (Ok mesh) → IsWellWritten mesh
by_mesh false options bound mesh plain answer =
    let of_points = subst (λ weighted. PointsMeshOf weighted options bound (Ok mesh)) plain answer in
    subst IsWellWritten (sym of_points.1) (λ all faces are. sound_points bound.table.points _ all faces are)
by_mesh true options bound mesh plain (made, m, is) = subst IsWellWritten (sym is) (λ all faces are. sound_complex _ _ _ made m all faces are)

pub sound_run : SoundRunLaw
sound_run options bound mesh plain answer = by_mesh options.piecewise options bound mesh plain answer

pub sound_outputs : SoundOutputsLaw
sound_outputs options bound mesh outputs plain answer are no_face = record {
  faces = are.marked;
  written = are.face_is;
  sound = sound_run options bound mesh plain answer options.all_faces are.marked (are.marked_are (asked_by_face options.no_face (asks_whole options.formats) no_face));
}

pub sound_left : SoundLeftLaw
sound_left words folder outputs run plain no_face = sound_outputs (options_of words) run.bound run.mesh outputs plain run.made run.outputs_are no_face
