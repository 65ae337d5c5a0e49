use Rattle.std.proofs.Common.{subst}
use Rattle.command_words.specs.declared.options.Options.{Options}
use Rattle.plc_files.specs.Text.{limits_of}
use Rattle.refining.specs.Goals.{shape_bounds}
use Rattle.refining.specs.Outputs.{RefinedMade, RefinedMeshed}
use Rattle.refining.specs.declared.goal.ShapeBounds.{ShapeBounds}
use Rattle.run_steps.proofs.Steps.{and_then_ok}
use Rattle.run_steps.specs.Meshing.{BoundAnswer}
use Rattle.tetfit_run.specs.Measured.{tried}
use Rattle.tetfit_run.specs.Outputs.{fit_limits}
use Rattle.tetfit_run.proofs.refined.refined_at.Goals as goal

pub returns-clause-made : goal.returns-clause-made
returns-clause-made g c =
    let input = c.args.input.now in
    let aim = c.args.goal.now in
    let o = c.in_ok-options.options in
    let made = c.refined_towards.result in
    let bounded = c.in_ok-bound.field-0 in
    let bound = bounded.bound in
    let refined = subst (λ (s : ShapeBounds). RefinedMade s o bound made) c.in_ok-bound.ensures.answer.1 c.refined_towards.ensures.made in
    subst (λ (q : Options). RefinedMeshed aim fit_limits q (tried q input) made) c.in_ok-options.ensures
    (and_then_ok (BoundAnswer fit_limits o (tried o input)) (λ b. RefinedMade (shape_bounds b aim (limits_of input.complex)) o b) bound made c.in_ok-bound.ensures.answer.0 refined)
