use Rattle.std.proofs.Common.{arith}
use Rattle.tetfit_run.proofs.Measured.{near_below}
use Rattle.tetfit_run.proofs.grids.coarse_decimals.Goals as goal

pub is_off_grid-requires : goal.is_off_grid-requires
is_off_grid-requires c = near_below c.args.origin c.loop-next.next c.args.decimals (omega (arith, c.loop-next.invariant)) c.requires

pub is_off_grid-requires-2 : goal.is_off_grid-requires-2
is_off_grid-requires-2 c = near_below c.args.origin c.loop-next.next c.args.decimals (omega (arith, c.loop-next.invariant)) c.requires
