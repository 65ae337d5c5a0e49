use Rattle.run_laws.proofs.ValidRun.{valid_run}
use Rattle.run_laws.proofs.valid_complexes.law_valid_run.Goals as goal

pub returns : goal.returns
returns c = valid_run
