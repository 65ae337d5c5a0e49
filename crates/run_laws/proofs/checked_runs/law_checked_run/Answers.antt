use Rattle.run_laws.proofs.CheckedRun.{checked_run}
use Rattle.run_laws.proofs.checked_runs.law_checked_run.Goals as goal

pub returns : goal.returns
returns c = checked_run
