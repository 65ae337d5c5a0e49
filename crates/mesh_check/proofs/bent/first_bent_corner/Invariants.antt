use Rattle.std.proofs.Common.{ℕ, ◌<◌}
use Rattle.mesh_check.specs.Bending.{IsBentFrom}
use Rattle.mesh_check.proofs.bent.first_bent_corner.Given as goal

abbrev pub invariant-loop-p : goal.invariant-loop-p
invariant-loop-p l = (k : ℕ) → k < l.p → ¬ ((k < 4) × IsBentFrom l.mesh.points.now l.mesh.listed.now l.s l.t k)
