use Rattle.run_laws.proofs.OneOutputs.{one_outputs}
use Rattle.run_laws.proofs.single_answers.law_one_outputs.Goals as goal

pub returns : goal.returns
returns c = one_outputs
