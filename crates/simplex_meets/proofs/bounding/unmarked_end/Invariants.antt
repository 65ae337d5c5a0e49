use Rattle.std.proofs.Common.{◌≤◌, length}
use Rattle.simplex_meets.specs.Pairs.{AreMarkedFrom}
use Rattle.simplex_meets.proofs.bounding.unmarked_end.Given as goal

abbrev pub invariant-loop-end : goal.invariant-loop-end
invariant-loop-end l = record { there : l.end ≤ length l.marks; marked : AreMarkedFrom l.marks l.end }

abbrev pub decreases-loop-end : goal.decreases-loop-end
decreases-loop-end l = l.end
