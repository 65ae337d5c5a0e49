use Rattle.std.proofs.Common.{◌≤◌}
use Rattle.tetfit_run.proofs.grids.coarse_decimals.Given as goal

abbrev pub invariant-loop-next : goal.invariant-loop-next
invariant-loop-next l = l.next ≤ l.decimals

abbrev pub decreases-loop-next : goal.decreases-loop-next
decreases-loop-next l = l.next
