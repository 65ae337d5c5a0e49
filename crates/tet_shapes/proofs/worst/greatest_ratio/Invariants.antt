use Rattle.std.proofs.Common.{◌≤◌, ◌<◌, ◌-◌, take}
use Rattle.tet_shapes.specs.Worst.{NonePasses, PassesAt, is_over_doubled}
use Rattle.tet_shapes.proofs.worst.greatest_ratio.Given as goal

abbrev pub invariant-loop-i : goal.invariant-loop-i
invariant-loop-i l = record {
  most : l.passed ≤ 21;
  none : NonePasses (is_over_doubled l.ratio l.passed) l.points (take l.i l.rows);
  one : 0 < l.passed → PassesAt (is_over_doubled l.ratio (l.passed - 1)) l.points l.rows l.place;
}
