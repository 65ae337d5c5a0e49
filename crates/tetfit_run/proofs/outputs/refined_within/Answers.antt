use Rattle.std.proofs.Common.{◌++◌}
use Rattle.tetfit_run.proofs.outputs.refined_within.Goals as goal

pub returns-in-Ok-refined_at-clause-shown : goal.returns-in-Ok-refined_at-clause-shown
returns-in-Ok-refined_at-clause-shown g c =
    let fine = c.refined_at.ensures.shown in
    let last = c.refined_at-in-Err.ensures.shown in
    (fine.0 ++ last.0, g.met.W.Watch.both fine.0 last.0 _ _ _ fine.1 last.1)

pub returns-clause-shown : goal.returns-clause-shown
returns-clause-shown g c =
    let fine = c.refined_at.ensures.shown in
    let last = c.refined_at-in-Err.ensures.shown in
    (fine.0 ++ last.0, g.met.W.Watch.both fine.0 last.0 _ _ _ fine.1 last.1)
