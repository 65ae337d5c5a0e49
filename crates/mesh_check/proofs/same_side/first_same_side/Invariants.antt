use Rattle.std.proofs.Common.{◌≤◌, length}
use Rattle.std.specs.HashMap.{get}
use Rattle.mesh_check.specs.Sides.{same_side, AreFirstsFrom}
use Rattle.mesh_check.proofs.SidesOf.{FirstFrom}
use Rattle.mesh_check.proofs.same_side.first_same_side.Given as goal

abbrev pub invariant-loop-left : goal.invariant-loop-left
invariant-loop-left l = record {
  there : l.left ≤ length l.list;
  kept : AreFirstsFrom l.points l.list l.left (get same_side l.sides);
  first : FirstFrom l.points l.list l.left l.first;
}

abbrev pub decreases-loop-left : goal.decreases-loop-left
decreases-loop-left l = l.left
