use Rattle.std.proofs.Common.{◌≡◌, length}
use Rattle.std.specs.Prelude.{All}
use Rattle.sign_predicates.specs.Weighted.{IsWeight}
use Rattle.weighted_mesh.specs.Weights.{weights_behind, weights_of}
use Rattle.weighted_mesh.proofs.ListedWeights.{weights_from}
use Rattle.weighted_mesh.proofs.reading.read_weights.Given as goal

abbrev pub invariant-loop-i : goal.invariant-loop-i
invariant-loop-i l =
    (weights_of l.table ≡ weights_behind l.weights (weights_from l.table (length l.table.listed) l.i))
    × (length l.weights ≡ l.i) × All IsWeight l.weights
