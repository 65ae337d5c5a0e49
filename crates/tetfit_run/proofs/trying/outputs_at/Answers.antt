use Rattle.std.proofs.Common.{subst}
use Rattle.command_words.specs.declared.options.Options.{Options}
use Rattle.tetfit_run.specs.Measured.{MeshedTried}
use Rattle.tetfit_run.specs.Trial.{TrialValue}
use Rattle.tetfit_run.specs.Trying.{answer_in}
use Rattle.tetfit_run.proofs.trying.outputs_at.Goals as goal

pub returns-clause-answer : goal.returns-clause-answer
returns-clause-answer c =
    let made = answer_in c.outputs_with.result in
    let answer = subst (λ (t : TrialValue). MeshedTried t.limits t.options t.input made) c.new-rounded.ensures c.outputs_with.ensures.answer in
    subst (λ (options : Options). MeshedTried c.args.limits options c.args.input.now made) c.in_ok-options.ensures answer
