use Rattle.std.proofs.Common.{subst, ap}
use Rattle.tetfit_run.specs.Measured.{BoundTried}
use Rattle.run_steps.proofs.Steps.{and_then_ok}
use Rattle.tetfit_run.specs.Trying.{MadeAnswer, answer_in}
use Rattle.tetfit_run.proofs.Tries.{numbered_in}
use Rattle.tetfit_run.proofs.trying.outputs_with.Goals as goal

pub returns-clause-answer : goal.returns-clause-answer
returns-clause-answer c =
    let t = c.args.trial.now in
    let made = answer_in c.outputs_of.result in
    let answer = subst (λ options. MadeAnswer options c.in_ok-bound.bound made) (ap (λ seen. seen.options) c.trial.view_is) c.outputs_of.ensures.answer in
    and_then_ok (BoundTried t.limits t.options t.input) (MadeAnswer t.options) c.in_ok-bound.bound made c.in_ok-bound.ensures.answer answer

pub returns-clause-numbered : goal.returns-clause-numbered
returns-clause-numbered c =
    let t = c.args.trial.now in
    let made = answer_in c.outputs_of.result in
    let answer = subst (λ options. MadeAnswer options c.in_ok-bound.bound made) (ap (λ seen. seen.options) c.trial.view_is) c.outputs_of.ensures.answer in
    numbered_in t.limits t.options t.input c.in_ok-bound.bound c.outputs_of.result c.in_ok-numbering.numbering c.in_ok-bound.ensures.answer answer c.outputs_of.ensures.numbered c.in_ok-numbering.ensures
