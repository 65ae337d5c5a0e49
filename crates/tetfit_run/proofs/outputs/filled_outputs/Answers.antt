use Rattle.tetfit_run.proofs.Measured.{tried_few}
use Rattle.tetfit_run.proofs.outputs.filled_outputs.Goals as goal

pub empty_stop-requires-clause-ranges : goal.empty_stop-requires-clause-ranges
empty_stop-requires-clause-ranges g c =
    let decimals = c.args.fitted.decimals in
    c.requires.ranges decimals (tried_few c.args.wanted.now.options c.args.model.now.input decimals c.requires.fitted.within)
