use Rattle.std.proofs.Common.{Ok, ap, ◌∙◌, subst}
use Rattle.refining.specs.Goals.{shape_bounds}
use Rattle.tetfit_run.specs.Measured.{BoundTried}
use Rattle.tetfit_run.specs.Trial.{TrialValue}
use Rattle.tetfit_run.proofs.refined.bind_tried.Goals as goal

pub returns-clause-answer : goal.returns-clause-answer
returns-clause-answer c =
    let input = c.args.input.now in
    let aim = c.args.goal.now in
    let o = c.args.options.now in
    let bound = c.in_ok-bound.bound in
    let limits_are = c.as_slice.ensures ∙ c.in_ok-of_regions.ensures in
    let tried_so = subst (λ (t : TrialValue). BoundTried t.limits t.options t.input (Ok bound)) c.new-rounded.ensures c.in_ok-bound.ensures.answer in
    (subst (λ limits. BoundTried limits o input (Ok bound)) c.fit_limits.ensures.values tried_so, c.in_ok-shapes.ensures.value ∙ ap (shape_bounds bound aim) limits_are)
