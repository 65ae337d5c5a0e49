use Rattle.run_laws.proofs.OneFit.{one_fit}
use Rattle.run_laws.proofs.single_answers.law_one_fit.Goals as goal

pub returns : goal.returns
returns c = one_fit
