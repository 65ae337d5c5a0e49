use Rattle.std.proofs.Common.{take, map}
use Rattle.mesh_check.specs.Corners.{face_listed}
use Rattle.mesh_check.specs.FaceSets.{HasExactly}
use Rattle.mesh_check.proofs.face_set.listed_faces.Given as goal

abbrev pub invariant-loop-i : goal.invariant-loop-i
invariant-loop-i l = HasExactly l.set (map face_listed (take l.i l.faces))
