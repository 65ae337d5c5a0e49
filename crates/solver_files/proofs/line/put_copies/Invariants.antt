use Rattle.std.proofs.Common.{◌≡◌, ◌++◌}
use Rattle.solver_files.specs.Mesh.{copies}
use Rattle.solver_files.proofs.line.put_copies.Given as goal

abbrev pub invariant-loop : goal.invariant-loop
invariant-loop l = l.out ≡ l.fn.out ++ copies l.counter l.text
