use Rattle.run_laws.proofs.FewDecimals.{few_decimals}
use Rattle.run_laws.proofs.checked_runs.law_few_decimals.Goals as goal

pub returns : goal.returns
returns c = few_decimals
