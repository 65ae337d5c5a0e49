use Rattle.std.specs.List.{AllWithin}
use Rattle.tangle_fill.specs.Accept.{IsRow}
use Rattle.tangle_fill.proofs.change.are_rows.Given as goal

abbrev pub invariant-loop-i : goal.invariant-loop-i
invariant-loop-i l = AllWithin (IsRow l.points) l.rows 0 l.i
