use Rattle.run_laws.proofs.OneOutputs.{one_meshed}
use Rattle.run_laws.proofs.single_answers.law_one_meshed.Goals as goal

pub returns : goal.returns
returns c = one_meshed
