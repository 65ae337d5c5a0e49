use Rattle.std.proofs.Common.{◌≡◌, ◌++◌, drop}
use Rattle.solver_files.specs.Mesh.{mesh_of}
use Rattle.solver_files.specs.Msh.{tet_line}
use Rattle.solver_files.proofs.Parts.{numbered_texts}
use Rattle.solver_files.proofs.msh.put_rows.Given as goal

-- the text so far, and the lines of what is left, make up the whole
abbrev pub invariant-loop-i : goal.invariant-loop-i
invariant-loop-i l =
    let line = tet_line (mesh_of l.mesh) in
    l.out ++ numbered_texts line l.i (drop l.i l.mesh.list.now) ≡ l.fn.out ++ numbered_texts line 0 l.mesh.list.now
