use Rattle.std.specs.Prelude.{IfSome}
use Rattle.tet_shapes.specs.Nearest.{AreNoNearer}
use Rattle.tet_shapes.proofs.Nearer.{IsNearestTo}
use Rattle.tet_shapes.proofs.nearest.nearest_to.Given as goal

abbrev pub invariant-loop-i : goal.invariant-loop-i
invariant-loop-i l = record {
  least : AreNoNearer l.points l.s l.i l.least;
  nearest : IfSome l.nearest (IsNearestTo l.points l.s l.least);
}
