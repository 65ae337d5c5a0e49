use Rattle.std.proofs.Common.{◌≤◌, map}
use Rattle.grid_coords.specs.Choice.{most_decimals}
use Rattle.tetfit_run.specs.Grids.{point_at}
use Rattle.tetfit_run.proofs.grids.rounded_decimals.Given as goal

abbrev pub invariant-loop-p : goal.invariant-loop-p
invariant-loop-p l = l.most ≤ most_decimals (map (point_at l.origin l.decimals) l.points)
