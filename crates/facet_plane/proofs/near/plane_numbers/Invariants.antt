use Rattle.std.proofs.Common.{◌-◌, length}
use Rattle.facet_plane.proofs.NearPoints.{AreFoundBefore}
use Rattle.facet_plane.proofs.near.plane_numbers.Given as goal

abbrev pub invariant-loop-i : goal.invariant-loop-i
invariant-loop-i l = AreFoundBefore l.points (record { a = l.a; b = l.b; c = l.c }) l.tree l.bounds l.i l.numbers

abbrev pub decreases-loop-i : goal.decreases-loop-i
decreases-loop-i l = length l.tree - l.i
