use Rattle.std.proofs.Common.{◌≡◌, ◌++◌, drop}
use Rattle.mesh_files.specs.Texts.{edge_lines, edge_text}
use Rattle.mesh_files.proofs.edge.write_edge.Given as goal

-- the text so far, and the lines of the sides that are left, make up the whole
abbrev pub invariant-loop-i : goal.invariant-loop-i
invariant-loop-i l = l.out ++ edge_lines l.names l.first l.i (drop l.i l.edges) ≡ edge_text l.names l.first l.edges
