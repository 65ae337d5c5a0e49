use Rattle.std.proofs.Common.{◌≤◌, ◌-◌, length}
use Rattle.box_tree.specs.Tree.{AreApartBetween}
use Rattle.box_tree.proofs.tree.next_meeting.Given as goal

abbrev pub invariant-loop-i : goal.invariant-loop-i
invariant-loop-i l = record { from : l.from ≤ l.i; there : l.i ≤ length l.tree; apart : AreApartBetween l.tree l.bounds l.from l.i }

abbrev pub decreases-loop-i : goal.decreases-loop-i
decreases-loop-i l = length l.tree - l.i
