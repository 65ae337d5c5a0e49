use Rattle.std.proofs.Common.{◌≡◌, ◌++◌, drop}
use Rattle.std.specs.Prelude.{flat_map}
use Rattle.solver_files.specs.Mesh.{mesh_of}
use Rattle.solver_files.specs.Vtk.{place_line}
use Rattle.solver_files.proofs.vtk.put_places.Given as goal

-- the text so far, and that of what is left, make up the whole
abbrev pub invariant-loop-i : goal.invariant-loop-i
invariant-loop-i l = l.out ++ flat_map (place_line (mesh_of l.mesh)) (drop l.i l.points) ≡ l.fn.out ++ flat_map (place_line (mesh_of l.mesh)) l.points
