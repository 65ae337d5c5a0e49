use Rattle.std.proofs.Common.{◌≤◌, ◌-◌, length}
use Rattle.facet_recover.proofs.Near.{IsLeastBefore}
use Rattle.facet_recover.proofs.crossing.entering_near.Given as goal

abbrev pub invariant-loop-i : goal.invariant-loop-i
invariant-loop-i l = record { there : l.i ≤ length l.tree; least : IsLeastBefore l.points l.triangles l.tet l.after l.tree l.i l.found }

abbrev pub decreases-loop-i : goal.decreases-loop-i
decreases-loop-i l = length l.tree - l.i
