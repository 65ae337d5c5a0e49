use Rattle.std.specs.HashMap.{get}
use Rattle.node_files.proofs.KnownPlaces.{same_key}
use Rattle.node_files.proofs.Folds.{IsFoldedTo}
use Rattle.node_files.proofs.folding.fold_points.Given as goal

abbrev pub invariant-loop-i : goal.invariant-loop-i
invariant-loop-i l = IsFoldedTo (λ key. get same_key l.places key) l.listed l.i l.points l.names l.folded
