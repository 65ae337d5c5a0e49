use Rattle.std.proofs.Common.{ℕ, ◌<◌, ℤ}
use Rattle.std.specs.List.{slice_index_or}
use Rattle.sign_predicates.specs.Weighted.{IsWeight}
use Rattle.mesh_tests.proofs.tests.regular_lists.are_weights.Given as goal

abbrev pub invariant-loop-i : goal.invariant-loop-i
invariant-loop-i l = (k : ℕ) → k < l.i → (d : ℤ) → IsWeight (slice_index_or l.weights k d)
