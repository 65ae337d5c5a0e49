use Rattle.std.proofs.Common.{◌≡◌, ◌≤◌, ◌<◌, ◌-◌, true}
use Rattle.tet_shapes.specs.Worst.{is_over_doubled}
use Rattle.tet_shapes.proofs.worst.doublings_of.Given as goal

abbrev pub invariant-loop-doublings : goal.invariant-loop-doublings
invariant-loop-doublings l = record {
  least : l.least ≤ l.doublings;
  one : l.least < l.doublings → is_over_doubled l.ratio (l.doublings - 1) l.t ≡ true;
}
