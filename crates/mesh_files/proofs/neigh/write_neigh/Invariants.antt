use Rattle.std.proofs.Common.{◌≡◌, ◌++◌, drop}
use Rattle.mesh_files.specs.Texts.{neigh_lines, neigh_text}
use Rattle.mesh_files.proofs.neigh.write_neigh.Given as goal

-- the text so far, and the lines of the rows that are left, make up the whole
abbrev pub invariant-loop-i : goal.invariant-loop-i
invariant-loop-i l = l.out ++ neigh_lines l.first l.i (drop l.i l.pairs) ≡ neigh_text l.first l.pairs
