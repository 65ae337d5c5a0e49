use Rattle.std.proofs.Common.{◌≡◌, ◌++◌, drop}
use Rattle.solver_files.specs.Second.{second_of}
use Rattle.solver_files.specs.SecondRows.{tet_row}
use Rattle.solver_files.proofs.Parts.{numbered_texts}
use Rattle.solver_files.proofs.second_rows.put_tet_rows.Given as goal

-- the text so far, and the lines of what is left, make up the whole
abbrev pub invariant-loop-i : goal.invariant-loop-i
invariant-loop-i l =
    let line = tet_row l.format (second_of l.mesh) l.first in
    l.out ++ numbered_texts line l.i (drop l.i l.mesh.whole.list.now) ≡ l.fn.out ++ numbered_texts line 0 l.mesh.whole.list.now
