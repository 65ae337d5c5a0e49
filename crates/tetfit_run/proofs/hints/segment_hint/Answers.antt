use Rattle.tetfit_run.proofs.PartsBefore.{whole_told}
use Rattle.tetfit_run.proofs.hints.segment_hint.Goals as goal

pub returns : goal.returns
returns c =
    let t = c.args.trial.now in
    whole_told t.limits t.options t.input c.args.by.now c.args.piece c.in_ok-whole.whole c.len.result c.whole_hint.result c.len.ensures.count c.in_ok-whole.ensures c.whole_hint.ensures
