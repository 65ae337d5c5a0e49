use Rattle.std.proofs.Common.{◌≡◌, ℕ, ◌<◌}
use Rattle.geo_laws.specs.Delaunay.{point}
use Rattle.mesh_tests.proofs.tests.small_sets.is_new.Given as goal

abbrev pub invariant-loop-i : goal.invariant-loop-i
invariant-loop-i l = (k : ℕ) → k < l.i → point l.points k ≡ l.p → ⊥
