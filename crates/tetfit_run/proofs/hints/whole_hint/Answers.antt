use Rattle.std.proofs.Common.{◌≡◌, ◌∙◌, List, ap, subst}
use Rattle.std.specs.Prelude.{IfOk}
use Rattle.grid_coords.specs.declared.points.DecimalPoint.{DecimalPoint}
use Rattle.tetfit_run.specs.Hints.{IsLineIn}
use Rattle.tetfit_run.specs.Trial.{TrialValue}
use Rattle.tetfit_run.proofs.PartsBefore.{line_told}
use Rattle.tetfit_run.proofs.hints.whole_hint.Goals as goal

pub returns-in-Ok : goal.returns-in-Ok
returns-in-Ok c =
    let t = c.args.trial.now in
    let bound = c.in-Ok.bound in
    let points : c.as_slice-points.result.now ≡ t.input.nodes.decimals = c.as_slice-points.ensures ∙ ap (λ (v : TrialValue). v.input.nodes.decimals) c.trial.view_is in
    line_told t.limits t.options t.input c.args.by.now c.args.whole bound c.bound_hint.result c.in-Ok.ensures.answer
    (subst (λ (ps : List DecimalPoint). IfOk c.bound_hint.result (IsLineIn bound ps c.args.by.now c.args.whole)) points c.bound_hint.ensures)
