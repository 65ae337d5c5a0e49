use Rattle.std.proofs.Common.{◌≡◌, ◌++◌, drop}
use Rattle.mesh_files.specs.Texts.{ele_lines, ele_text}
use Rattle.mesh_files.proofs.ele.write_rows.Given as goal

-- the text so far, and the lines of the rows that are left, make up the whole
abbrev pub invariant-loop-i : goal.invariant-loop-i
invariant-loop-i l = l.out ++ ele_lines l.names l.first l.i (drop l.i l.list) ≡ ele_text l.names l.first l.list
