use Rattle.std.proofs.Common.{◌≡◌, drop}
use Rattle.std.specs.Prelude.{max}
use Rattle.node_files.specs.LeastGrid.{greatest, fives_of}
use Rattle.node_files.proofs.least.most_fives.Given as goal

abbrev pub invariant-loop-p : goal.invariant-loop-p
invariant-loop-p l = max l.most (greatest fives_of (drop l.p-index l.points)) ≡ greatest fives_of l.points
