use Rattle.std.proofs.Common.{◌≤◌, ◌-◌, length}
use Rattle.std.specs.Prelude.{IfSome}
use Rattle.tangle_fill.specs.Fill.{IsRowOfFace}
use Rattle.tangle_fill.proofs.search.emptiest_near.Given as goal

abbrev pub invariant-loop-k : goal.invariant-loop-k
invariant-loop-k l = record {
  there : l.k ≤ length l.complex.point_tree;
  best : IfSome l.trial.best (IsRowOfFace l.complex.points.now l.f);
}

abbrev pub decreases-loop-k : goal.decreases-loop-k
decreases-loop-k l = length l.complex.point_tree - l.k
