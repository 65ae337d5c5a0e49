use Rattle.std.proofs.Common.{arith}
use Rattle.tetfit_run.proofs.Measured.{near_below}
use Rattle.tetfit_run.proofs.grids.first_tried.Goals as goal

pub returns-in-Some-clause-near : goal.returns-in-Some-clause-near
returns-in-Some-clause-near c =
    near_below c.args.options.now.origin c.min.result c.most_tried-most.result (omega (arith, c.min.ensures)) c.most_tried-most.ensures.near
