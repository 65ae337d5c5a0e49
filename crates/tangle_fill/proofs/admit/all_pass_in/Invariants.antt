use Rattle.std.proofs.Common.{◌≤◌, ◌-◌, length}
use Rattle.tangle_fill.proofs.Spheres.{ArePassed}
use Rattle.tangle_fill.proofs.admit.all_pass_in.Given as goal

abbrev pub invariant-loop-k : goal.invariant-loop-k
invariant-loop-k l = record {
  there : l.k ≤ length l.complex.point_tree;
  passed : ArePassed l.complex.points.now l.complex.triangles.now l.row l.complex.point_tree l.k;
}

abbrev pub decreases-loop-k : goal.decreases-loop-k
decreases-loop-k l = length l.complex.point_tree - l.k
