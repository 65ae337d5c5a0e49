use Rattle.std.proofs.Common.{◌≤◌, ◌<◌, ◌+◌, take}
use Rattle.tet_shapes.specs.Worst.{NonePasses, PassesAt, is_below_degrees}
use Rattle.tet_shapes.proofs.worst.least_angle.Given as goal

abbrev pub invariant-loop-i : goal.invariant-loop-i
invariant-loop-i l = record {
  most : l.least ≤ l.aim;
  none : NonePasses (is_below_degrees l.least) l.points (take l.i l.rows);
  one : l.least < l.aim → PassesAt (is_below_degrees (l.least + 1)) l.points l.rows l.place;
}
