use Rattle.std.proofs.Common.{sym, subst}
use Rattle.tetfit_run.specs.Placed.{HasCrossingOn}
use Rattle.tetfit_run.specs.Trial.{TrialValue}
use Rattle.tetfit_run.proofs.Placements.{crossing_again}
use Rattle.tetfit_run.proofs.placed.placed_of.Goals as goal

pub placed_on-requires-clause-crossing : goal.placed_on-requires-clause-crossing
placed_on-requires-clause-crossing c =
    let t = c.args.trial.now in
    subst (λ (v : TrialValue). HasCrossingOn v.options c.in-Ok.bound) (sym c.trial.view_is) (crossing_again t.limits t.options t.input c.in-Ok.bound c.requires c.in-Ok.ensures.answer)
