use Rattle.std.proofs.Common.{◌≡◌, drop}
use Rattle.node_files.specs.LeastGrid.{first_over_units}
use Rattle.node_files.proofs.least.line_over.Given as goal

abbrev pub invariant-loop-p : goal.invariant-loop-p
invariant-loop-p l = first_over_units l.wide l.grid (drop l.p-index l.points) ≡ first_over_units l.wide l.grid l.points
