use Rattle.std.proofs.Common.{◌≡◌, ℕ, ◌<◌}
use Rattle.geo_laws.specs.Delaunay.{point}
use Rattle.mesh_tests.proofs.tests.small_sets.are_distinct.Given as goal

abbrev pub invariant-loop-j : goal.invariant-loop-j
invariant-loop-j l = (k : ℕ) → k < l.j → (i : ℕ) → i < k → point l.points i ≡ point l.points k → ⊥
