use Rattle.std.proofs.Common.{Ok, subst}
use Rattle.std.specs.Prelude.{IfOk, IfSome}
use Rattle.refining.specs.Outputs.{RefinedAnswer}
use Rattle.refining.specs.declared.goal.ShapeBounds.{ShapeBounds}
use Rattle.tetfit_run.proofs.refined.conformed_towards.Goals as goal

pub returns-clause-made : goal.returns-clause-made
returns-clause-made g c =
    subst (λ (s : ShapeBounds). IfOk c.conforming_outputs.result (λ made. IfSome made (λ outputs. RefinedAnswer s c.args.options.now c.args.bound (Ok outputs)))) c.bounds_on-bounds.ensures
    c.conforming_outputs.ensures.made
