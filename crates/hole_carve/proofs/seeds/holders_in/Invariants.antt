use Rattle.std.proofs.Common.{◌≤◌, ◌-◌, length}
use Rattle.hole_carve.proofs.Treed.{AreSeenBefore}
use Rattle.hole_carve.proofs.seeds.holders_in.Given as goal

abbrev pub invariant-loop-i : goal.invariant-loop-i
invariant-loop-i l = record { there : l.i ≤ length l.tree; seen : AreSeenBefore l.points l.list l.x l.tree l.i l.holders.items }

abbrev pub decreases-loop-i : goal.decreases-loop-i
decreases-loop-i l = length l.tree - l.i
