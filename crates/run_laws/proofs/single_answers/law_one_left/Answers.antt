use Rattle.run_laws.proofs.OneRun.{one_left}
use Rattle.run_laws.proofs.single_answers.law_one_left.Goals as goal

pub returns : goal.returns
returns c = one_left
