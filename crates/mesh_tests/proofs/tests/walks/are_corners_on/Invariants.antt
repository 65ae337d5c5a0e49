use Rattle.point_locate.proofs.Shapes.{AreCornersOnBelow}
use Rattle.mesh_tests.proofs.tests.walks.are_corners_on.Given as goal

abbrev pub invariant-loop-i : goal.invariant-loop-i
invariant-loop-i l = AreCornersOnBelow l.arena.slots l.points l.i
