use Rattle.std.proofs.Common.{ap, sym, subst}
use Rattle.std.specs.Prelude.{IfOk}
use Rattle.run_steps.specs.declared.status.Status.{Status}
use Rattle.tetfit_run.specs.Hints.{missing_in, IsHintBy}
use Rattle.tetfit_run.proofs.Missing.{numbered_missing}
use Rattle.tetfit_run.proofs.hints.hint_by.Goals as goal

pub rounded_segment_hint-requires-clause-missing : goal.rounded_segment_hint-requires-clause-missing
rounded_segment_hint-requires-clause-missing c =
    let t = c.args.trial.now in
    numbered_missing t.limits t.options t.input c.args.status.now c.args.by.now _ c.requires.refused (ap missing_in c.in-GridEnd.is)

pub segment_hint-requires-clause-missing : goal.segment_hint-requires-clause-missing
segment_hint-requires-clause-missing c =
    let t = c.args.trial.now in
    numbered_missing t.limits t.options t.input c.args.status.now c.args.by.now _ c.requires.refused (ap missing_in c.in-BudgetEnd.is)

pub returns-in-SegmentsCross : goal.returns-in-SegmentsCross
returns-in-SegmentsCross c =
    let t = c.args.trial.now in
    subst (λ (s : Status). IfOk c.segments_hint.result (IsHintBy t.limits t.options t.input c.args.by.now s)) (sym c.in-SegmentsCross.is) c.segments_hint.ensures
