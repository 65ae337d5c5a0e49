use Rattle.std.proofs.Common.{◌≡◌, ◌++◌, drop}
use Rattle.std.specs.Prelude.{flat_map}
use Rattle.solver_files.specs.Vtk.{face_cell}
use Rattle.solver_files.proofs.vtk.put_faces.Given as goal

-- the text so far, and that of what is left, make up the whole
abbrev pub invariant-loop-i : goal.invariant-loop-i
invariant-loop-i l = l.out ++ flat_map (face_cell l.names) (drop l.i l.faces) ≡ l.fn.out ++ flat_map (face_cell l.names) l.faces
