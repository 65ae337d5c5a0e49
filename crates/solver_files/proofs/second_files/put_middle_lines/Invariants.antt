use Rattle.std.proofs.Common.{◌≡◌, ◌++◌, ◌+◌, drop}
use Rattle.solver_files.specs.Second.{second_of}
use Rattle.solver_files.specs.SecondTexts.{middle_line}
use Rattle.solver_files.proofs.Parts.{numbered_texts}
use Rattle.solver_files.proofs.second_files.put_middle_lines.Given as goal

-- the text so far, and the lines of the edges that are left, make up the whole
abbrev pub invariant-loop-i : goal.invariant-loop-i
invariant-loop-i l =
    let line = middle_line (second_of l.mesh) in
    l.out ++ numbered_texts line (l.start + l.i) (drop l.i l.mesh.sides.now) ≡ l.fn.out ++ numbered_texts line l.start l.mesh.sides.now
