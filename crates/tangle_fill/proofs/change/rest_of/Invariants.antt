use Rattle.tangle_fill.proofs.Removal.{IsRemovedBelow}
use Rattle.tangle_fill.proofs.change.rest_of.Given as goal

abbrev pub invariant-loop-i : goal.invariant-loop-i
invariant-loop-i l = IsRemovedBelow l.list l.other l.rest l.i
