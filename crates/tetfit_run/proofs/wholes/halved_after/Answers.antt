use Rattle.std.proofs.Common.{ap, subst, ◌∙◌}
use Rattle.tetfit_run.specs.Hints.{with_budget}
use Rattle.tetfit_run.specs.Measured.{MeshedTried}
use Rattle.tetfit_run.specs.Trial.{trial_of, TrialValue}
use Rattle.tetfit_run.specs.Trying.{answer_in}
use Rattle.tetfit_run.proofs.Missing.{missing_told, never_fitted, refused_with, some_missing}
use Rattle.tetfit_run.proofs.wholes.halved_after.Goals as goal

pub unreachable-requires : goal.unreachable-requires
unreachable-requires c =
    let t = c.args.trial.now in
    let added = c.args.added in
    let made = answer_in c.outputs_with.result in
    let l = ap (λ (v : TrialValue). v.limits) c.trial.view_is in
    let o = c.in_ok-options.ensures ∙ ap (λ (v : TrialValue). with_budget added v.options) c.trial.view_is in
    let i = ap (λ (v : TrialValue). v.input) c.trial.view_is in
    let answer = subst (λ (v : TrialValue). MeshedTried v.limits v.options v.input made) (c.new-halved.ensures ∙ (λ j. trial_of (l j) (o j) (i j))) c.outputs_with.ensures.answer in
    let missing = c.requires.halved in
    never_fitted t.limits (with_budget added t.options) t.input missing.0 missing.1 c.outputs_with.result _ c.in-Ok.is answer

pub missing_in-requires : goal.missing_in-requires
missing_in-requires c =
    let t = c.args.trial.now in
    let added = c.args.added in
    let made = answer_in c.outputs_with.result in
    let l = ap (λ (v : TrialValue). v.limits) c.trial.view_is in
    let o = c.in_ok-options.ensures ∙ ap (λ (v : TrialValue). with_budget added v.options) c.trial.view_is in
    let i = ap (λ (v : TrialValue). v.input) c.trial.view_is in
    let answer = subst (λ (v : TrialValue). MeshedTried v.limits v.options v.input made) (c.new-halved.ensures ∙ (λ j. trial_of (l j) (o j) (i j))) c.outputs_with.ensures.answer in
    let missing = c.requires.halved in
    let refused = refused_with t.limits (with_budget added t.options) t.input c.outputs_with.result c.in-Err.end c.in-Err.is answer in
    λ d. some_missing t.limits (with_budget added t.options) t.input missing.0 missing.1 c.in-Err.end.status refused d

pub returns : goal.returns
returns c =
    let t = c.args.trial.now in
    let added = c.args.added in
    let made = answer_in c.outputs_with.result in
    let l = ap (λ (v : TrialValue). v.limits) c.trial.view_is in
    let o = c.in_ok-options.ensures ∙ ap (λ (v : TrialValue). with_budget added v.options) c.trial.view_is in
    let i = ap (λ (v : TrialValue). v.input) c.trial.view_is in
    let answer = subst (λ (v : TrialValue). MeshedTried v.limits v.options v.input made) (c.new-halved.ensures ∙ (λ j. trial_of (l j) (o j) (i j))) c.outputs_with.ensures.answer in
    let refused = refused_with t.limits (with_budget added t.options) t.input c.outputs_with.result c.in-Err.end c.in-Err.is answer in
    missing_told t.limits (with_budget added t.options) t.input c.in-Err.end.status c.missing_in.result refused c.missing_in.ensures
