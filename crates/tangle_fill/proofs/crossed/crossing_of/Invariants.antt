use Rattle.std.proofs.Common.{◌≤◌, ◌-◌, length}
use Rattle.tangle_fill.proofs.crossed.crossing_of.Given as goal

abbrev pub invariant-loop-i : goal.invariant-loop-i
invariant-loop-i l = l.i ≤ length l.tree

abbrev pub decreases-loop-i : goal.decreases-loop-i
decreases-loop-i l = length l.tree - l.i
