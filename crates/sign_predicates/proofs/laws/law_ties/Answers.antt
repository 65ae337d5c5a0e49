use Rattle.sign_predicates.proofs.RisingNumber.{tie_law}
use Rattle.sign_predicates.proofs.laws.law_ties.Goals as goal

pub returns : goal.returns
returns c = tie_law
