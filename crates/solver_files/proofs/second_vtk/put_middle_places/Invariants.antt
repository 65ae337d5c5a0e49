use Rattle.std.proofs.Common.{◌≡◌, ◌++◌, drop}
use Rattle.std.specs.Prelude.{flat_map}
use Rattle.solver_files.specs.Second.{second_of}
use Rattle.solver_files.specs.SecondTexts.{middle_place_line}
use Rattle.solver_files.proofs.second_vtk.put_middle_places.Given as goal

-- the text so far, and that of what is left, make up the whole
abbrev pub invariant-loop-i : goal.invariant-loop-i
invariant-loop-i l =
    let line = middle_place_line (second_of l.mesh) in
    l.out ++ flat_map line (drop l.i l.mesh.sides.now) ≡ l.fn.out ++ flat_map line l.mesh.sides.now
