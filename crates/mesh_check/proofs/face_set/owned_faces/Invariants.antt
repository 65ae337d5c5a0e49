use Rattle.std.proofs.Common.{take}
use Rattle.geo_laws.specs.Faces.{faces_of_rows}
use Rattle.mesh_check.specs.FaceSets.{HasExactly}
use Rattle.mesh_check.proofs.face_set.owned_faces.Given as goal

abbrev pub invariant-loop-i : goal.invariant-loop-i
invariant-loop-i l = HasExactly l.set (faces_of_rows (take l.i l.list))
