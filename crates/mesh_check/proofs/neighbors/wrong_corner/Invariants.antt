use Rattle.std.proofs.Common.{◌≢◌, ℕ, ◌<◌}
use Rattle.mesh_check.specs.Corners.{entry_in}
use Rattle.mesh_check.proofs.neighbors.wrong_corner.Given as goal

abbrev pub invariant-loop-corner : goal.invariant-loop-corner
invariant-loop-corner l = (k : ℕ) → k < l.corner → ¬ ((k < 4) × (entry_in l.listed k ≢ entry_in l.across k))
