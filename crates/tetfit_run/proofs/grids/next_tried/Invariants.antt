use Rattle.std.proofs.Common.{◌<◌}
use Rattle.tetfit_run.specs.Grids.{ArePassedBetween}
use Rattle.tetfit_run.proofs.grids.next_tried.Given as goal

abbrev pub invariant-loop-next : goal.invariant-loop-next
invariant-loop-next l = record { less : l.next < l.decimals; passed : ArePassedBetween l.wide l.origin l.points l.next l.decimals }

abbrev pub decreases-loop-next : goal.decreases-loop-next
decreases-loop-next l = l.next
