use Rattle.std.proofs.Common.{◌≡◌, ◌≤◌, List, length}
use Rattle.geo_laws.specs.declared.faces.Face.{Face}
use Rattle.incidence.specs.HalfFaces.{used}
use Rattle.mesh_files.proofs.Found.{AreFacesBefore}
use Rattle.mesh_files.proofs.faces.face_count.Given as goal

-- so many are the faces of the uses so far
abbrev pub invariant-loop-at : goal.invariant-loop-at
invariant-loop-at l = record {
  within : l.count ≤ l.at;
  counted : (faces : List Face) × AreFacesBefore (used l.list l.uses) l.at faces × (l.count ≡ length faces);
}
