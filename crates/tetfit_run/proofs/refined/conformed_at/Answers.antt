use Rattle.std.proofs.Common.{Ok, subst}
use Rattle.std.specs.Prelude.{IfOk, IfSome}
use Rattle.std.proofs.lemmas.Option.{IfSome_then}
use Rattle.std.proofs.lemmas.Result.{IfOk-weaker}
use Rattle.command_words.specs.declared.options.Options.{Options}
use Rattle.refining.specs.Outputs.{ConformingMeshed, RefinedAnswer}
use Rattle.refining.specs.declared.goal.ShapeBounds.{ShapeBounds}
use Rattle.tetfit_run.specs.Measured.{tried}
use Rattle.tetfit_run.specs.Outputs.{fit_limits}
use Rattle.tetfit_run.proofs.refined.conformed_at.Goals as goal

pub returns-in-Ok-clause-made : goal.returns-in-Ok-clause-made
returns-in-Ok-clause-made g c =
    let input = c.args.input.now in
    let aim = c.args.goal.now in
    let o = c.in_ok-options.options in
    let bounded = c.in-Ok.field-0 in
    let answer = c.in-Ok.ensures.answer in
    subst (λ (q : Options). IfOk c.conformed_towards.result (λ made. IfSome made (ConformingMeshed aim fit_limits q (tried q input)))) c.in_ok-options.ensures
    (IfOk-weaker c.conformed_towards.result _ _
    (λ made h. IfSome_then made h (λ outputs k. (bounded.bound, answer.0, subst (λ (s : ShapeBounds). RefinedAnswer s o bounded.bound (Ok outputs)) answer.1 k)))
    c.conformed_towards.ensures.made)
