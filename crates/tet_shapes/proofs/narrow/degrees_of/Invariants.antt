use Rattle.std.proofs.Common.{◌≤◌}
use Rattle.std.specs.Prelude.{IfSome}
use Rattle.tet_shapes.specs.Narrow.{IsBelowDegrees}
use Rattle.tet_shapes.proofs.narrow.degrees_of.Given as goal

abbrev pub invariant-loop-degrees : goal.invariant-loop-degrees
invariant-loop-degrees l = record {
  most : l.degrees ≤ l.most;
  below : IfSome l.found (IsBelowDegrees l.points l.corner);
  few : IfSome l.found (λ degrees. degrees ≤ l.most);
}

abbrev pub decreases-loop-degrees : goal.decreases-loop-degrees
decreases-loop-degrees l = l.degrees
