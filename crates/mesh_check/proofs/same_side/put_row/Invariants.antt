use Rattle.std.specs.HashMap.{get}
use Rattle.mesh_check.specs.Sides.{same_side, IsPutBelow}
use Rattle.mesh_check.proofs.same_side.put_row.Given as goal

abbrev pub invariant-loop-corner : goal.invariant-loop-corner
invariant-loop-corner l = IsPutBelow l.points l.row l.corner l.place (get same_side l.initial.sides) (get same_side l.sides)
