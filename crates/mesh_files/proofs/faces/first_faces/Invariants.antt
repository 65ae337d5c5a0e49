use Rattle.incidence.specs.HalfFaces.{used}
use Rattle.mesh_files.proofs.Found.{AreFacesBefore}
use Rattle.mesh_files.proofs.faces.first_faces.Given as goal

-- the faces so far are those of the uses so far
abbrev pub invariant-loop-at : goal.invariant-loop-at
invariant-loop-at l = AreFacesBefore (used l.list l.uses) l.at l.faces
