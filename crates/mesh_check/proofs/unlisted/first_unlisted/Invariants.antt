use Rattle.std.proofs.Common.{ℕ, ◌<◌}
use Rattle.mesh_check.specs.Defects.{IsUnlisted}
use Rattle.mesh_check.proofs.unlisted.first_unlisted.Given as goal

abbrev pub invariant-loop-i : goal.invariant-loop-i
invariant-loop-i l = (a b : ℕ) → a < l.i → ¬ IsUnlisted l.list l.faces a b
