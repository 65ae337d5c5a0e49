use Rattle.std.proofs.Common.{ℕ, ◌<◌}
use Rattle.mesh_check.specs.Bending.{IsBentOnce}
use Rattle.mesh_check.proofs.bent.bent_corner.Given as goal

abbrev pub invariant-loop-q : goal.invariant-loop-q
invariant-loop-q l = (k : ℕ) → k < l.q → ¬ ((k < 4) × IsBentOnce l.mesh.points.now l.mesh.listed.now l.s l.t l.p k)
