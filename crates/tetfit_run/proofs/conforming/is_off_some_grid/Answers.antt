use Rattle.std.proofs.Common.{refl, sym, ◌∙◌}
use Rattle.tetfit_run.specs.Outputs.{fit_limits}
use Rattle.tetfit_run.proofs.Fitted.{off_last_grid}
use Rattle.tetfit_run.proofs.conforming.is_off_some_grid.Goals as goal

pub returns : goal.returns
returns c = λ is. off_last_grid fit_limits c.args.options.now c.args.input.now c.args.refused.now refl c.requires.refused (sym c.is_of_grid.ensures ∙ is)
