use Rattle.std.specs.List.{AllWithin}
use Rattle.tangle_fill.specs.Change.{IsClosedNear}
use Rattle.tangle_fill.proofs.accept.are_closed.Given as goal

abbrev pub invariant-loop-i : goal.invariant-loop-i
invariant-loop-i l = AllWithin (IsClosedNear l.points l.change) l.near 0 l.i
