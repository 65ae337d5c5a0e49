use Rattle.std.proofs.Common.{arith}
use Rattle.tetfit_run.proofs.Measured.{near_below}
use Rattle.tetfit_run.proofs.grids.next_tried.Goals as goal

pub is_passed-requires-clause-few : goal.is_passed-requires-clause-few
is_passed-requires-clause-few c = near_below c.args.origin c.loop-next.next c.args.decimals (omega (arith, c.loop-next.invariant.less)) c.requires.near
