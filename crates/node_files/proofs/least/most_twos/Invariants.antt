use Rattle.std.proofs.Common.{◌≡◌, drop}
use Rattle.std.specs.Prelude.{max}
use Rattle.node_files.specs.LeastGrid.{greatest, twos_of}
use Rattle.node_files.proofs.least.most_twos.Given as goal

abbrev pub invariant-loop-p : goal.invariant-loop-p
invariant-loop-p l = max l.most (greatest twos_of (drop l.p-index l.points)) ≡ greatest twos_of l.points
