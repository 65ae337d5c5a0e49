use Rattle.std.proofs.Common.{◌≡◌, ◌++◌, ◌+◌, drop}
use Rattle.solver_files.specs.Mesh.{mesh_of}
use Rattle.solver_files.specs.Msh.{node_line}
use Rattle.solver_files.proofs.Parts.{numbered_texts}
use Rattle.solver_files.proofs.msh.put_node_lines.Given as goal

-- the text so far, and the lines of the points that are left, make up the whole
abbrev pub invariant-loop-i : goal.invariant-loop-i
invariant-loop-i l =
    let line = node_line (mesh_of l.mesh) in
    l.out ++ numbered_texts line (l.first + l.i) (drop l.i l.points) ≡ l.fn.out ++ numbered_texts line l.first l.points
