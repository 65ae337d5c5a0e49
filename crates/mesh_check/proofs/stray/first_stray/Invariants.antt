use Rattle.std.proofs.Common.{ℕ, ◌<◌}
use Rattle.mesh_check.specs.Defects.{IsStray}
use Rattle.mesh_check.proofs.stray.first_stray.Given as goal

abbrev pub invariant-loop-i : goal.invariant-loop-i
invariant-loop-i l = (k : ℕ) → k < l.i → ¬ IsStray l.list l.faces k
