use Rattle.std.proofs.Common.{sym, ◌∙◌}
use Rattle.tetfit_run.proofs.OffGrid.{off_rounded}
use Rattle.tetfit_run.proofs.grids.is_off_grid.Goals as goal

pub returns : goal.returns
returns c = λ t. off_rounded c.args.wide c.args.origin c.args.decimals c.rounded_decimals-finest.result c.args.points.now c.rounded_decimals-finest.ensures (sym c.has_over.ensures ∙ t)
