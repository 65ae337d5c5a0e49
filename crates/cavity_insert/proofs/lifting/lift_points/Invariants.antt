use Rattle.std.proofs.Common.{◌≡◌, ℕ, ◌<◌, length}
use Rattle.sign_predicates.specs.Lifted.{IsInFrame}
use Rattle.geo_laws.specs.Delaunay.{point}
use Rattle.cavity_insert.proofs.lifting.lift_points.Given as goal

abbrev pub invariant-loop-p : goal.invariant-loop-p
invariant-loop-p l = record {
  count : length l.lifted ≡ l.p-index;
  each : (i : ℕ) → i < l.p-index → IsInFrame l.frame (point l.lifted i) (point l.points i);
}
