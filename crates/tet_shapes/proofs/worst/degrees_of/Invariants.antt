use Rattle.std.proofs.Common.{◌≡◌, ◌≤◌, ◌<◌, ◌+◌, true}
use Rattle.tet_shapes.specs.Worst.{is_below_degrees}
use Rattle.tet_shapes.proofs.worst.degrees_of.Given as goal

abbrev pub invariant-loop-degrees : goal.invariant-loop-degrees
invariant-loop-degrees l = record {
  most : l.degrees ≤ l.most;
  one : l.degrees < l.most → is_below_degrees (l.degrees + 1) l.t ≡ true;
}

abbrev pub decreases-loop-degrees : goal.decreases-loop-degrees
decreases-loop-degrees l = l.degrees
