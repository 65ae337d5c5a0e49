use Rattle.std.proofs.Common.{◌≡◌, ◌++◌, drop}
use Rattle.mesh_files.specs.Texts.{attributed_lines, attributed_text}
use Rattle.mesh_files.proofs.ele.write_attributed.Given as goal

-- the text so far, and the lines of the rows that are left, make up the whole
abbrev pub invariant-loop-i : goal.invariant-loop-i
invariant-loop-i l = l.out ++ attributed_lines l.marks l.complex.regions l.names l.first l.i (drop l.i l.list) ≡ attributed_text l.marks l.complex.regions l.names l.first l.list
