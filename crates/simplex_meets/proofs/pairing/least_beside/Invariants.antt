use Rattle.std.proofs.Common.{◌≤◌, ◌-◌, length}
use Rattle.simplex_meets.proofs.Leasts.{IsBesideTo}
use Rattle.simplex_meets.proofs.pairing.least_beside.Given as goal

abbrev pub invariant-loop-at : goal.invariant-loop-at
invariant-loop-at l = record { there : l.at ≤ length l.tree; beside : IsBesideTo l.marked.compared l.points l.marked.parts.now l.marked.marks.now l.i l.tree l.at l.fn.before l.found }

abbrev pub decreases-loop-at : goal.decreases-loop-at
decreases-loop-at l = length l.tree - l.at
