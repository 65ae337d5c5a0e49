use Rattle.run_laws.proofs.OneRun.{one_run}
use Rattle.run_laws.proofs.single_answers.law_one_run.Goals as goal

pub returns : goal.returns
returns c = one_run
