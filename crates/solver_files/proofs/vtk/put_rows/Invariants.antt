use Rattle.std.proofs.Common.{◌≡◌, ◌++◌, drop}
use Rattle.std.specs.Prelude.{flat_map}
use Rattle.solver_files.specs.Vtk.{tet_cell}
use Rattle.solver_files.proofs.vtk.put_rows.Given as goal

-- the text so far, and that of what is left, make up the whole
abbrev pub invariant-loop-i : goal.invariant-loop-i
invariant-loop-i l = l.out ++ flat_map (tet_cell l.names) (drop l.i l.list) ≡ l.fn.out ++ flat_map (tet_cell l.names) l.list
