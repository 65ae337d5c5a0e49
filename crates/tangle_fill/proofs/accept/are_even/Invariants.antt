use Rattle.std.specs.List.{AllWithin}
use Rattle.tangle_fill.specs.Accept.{IsEvenRow}
use Rattle.tangle_fill.proofs.accept.are_even.Given as goal

abbrev pub invariant-loop-j : goal.invariant-loop-j
invariant-loop-j l = AllWithin (IsEvenRow l.points l.faces l.growth.rows) l.rows 0 l.j
