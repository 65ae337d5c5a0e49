use Rattle.std.proofs.Common.{ℕ, ◌<◌}
use Rattle.mesh_check.specs.Defects.{IsBent}
use Rattle.mesh_check.proofs.bent.first_bent.Given as goal

abbrev pub invariant-loop-i : goal.invariant-loop-i
invariant-loop-i l = (a b : ℕ) → a < l.i → ¬ IsBent l.mesh.points.now l.mesh.list.now l.faces a b
