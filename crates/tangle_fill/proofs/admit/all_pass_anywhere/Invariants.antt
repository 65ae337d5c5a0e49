use Rattle.std.proofs.Common.{ℕ, ◌<◌}
use Rattle.tangle_fill.specs.Fill.{Passes}
use Rattle.tangle_fill.proofs.admit.all_pass_anywhere.Given as goal

abbrev pub invariant-loop-i : goal.invariant-loop-i
invariant-loop-i l = (k : ℕ) → k < l.i → Passes l.complex.points.now l.complex.triangles.now l.row k
