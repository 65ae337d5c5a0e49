use Rattle.std.proofs.Common.{◌≡◌, map, take}
use Rattle.weighted_mesh.specs.Regular.{weight}
use Rattle.weighted_mesh.proofs.kept.kept_weights.Given as goal

abbrev pub invariant-loop-name : goal.invariant-loop-name
invariant-loop-name l = l.kept ≡ map (weight l.weights) (take l.name-index l.names)
