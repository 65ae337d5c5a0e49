use Rattle.std.proofs.Common.{◌≤◌}
use Rattle.std.specs.Prelude.{IfSome}
use Rattle.tet_shapes.specs.Narrow.{IsNarrow}
use Rattle.tet_shapes.proofs.narrow.narrowest.Given as goal

abbrev pub invariant-loop-place : goal.invariant-loop-place
invariant-loop-place l = record {
  most : l.most ≤ 30;
  narrow : IfSome l.found (IsNarrow l.points l.segments l.s);
}
