use Rattle.tetfit_run.proofs.Measured.{of_near}
use Rattle.tetfit_run.proofs.hints.hint_of.Goals as goal

pub grid_hint-requires : goal.grid_hint-requires
grid_hint-requires c = of_near c.args.options.now.origin c.args.refused.now.decimals c.requires.ranges.near
