use Rattle.std.proofs.Common.{◌≡◌, ◌++◌, replicate}
use Rattle.tet_text.proofs.printing.put_zeros.Given as goal

abbrev pub invariant-loop : goal.invariant-loop
invariant-loop l = l.out ≡ l.fn.out ++ replicate l.counter 48
