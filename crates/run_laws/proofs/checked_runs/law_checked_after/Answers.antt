use Rattle.run_laws.proofs.CheckedRun.{checked_after}
use Rattle.run_laws.proofs.checked_runs.law_checked_after.Goals as goal

pub returns : goal.returns
returns c = checked_after
