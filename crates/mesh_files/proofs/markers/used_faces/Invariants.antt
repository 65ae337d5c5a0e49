use Rattle.incidence.specs.HalfFaces.{used}
use Rattle.mesh_files.specs.FaceRows.{corners_of}
use Rattle.mesh_files.proofs.Found.{AreFoundBefore}
use Rattle.mesh_files.proofs.Marked.{IsListedRow}
use Rattle.mesh_files.proofs.markers.used_faces.Given as goal

-- the faces so far are those of the uses so far
abbrev pub invariant-loop-at : goal.invariant-loop-at
invariant-loop-at l = AreFoundBefore corners_of (IsListedRow l.mesh.triangles.now l.complex l.list l.all) (used l.list l.uses) l.at l.found
