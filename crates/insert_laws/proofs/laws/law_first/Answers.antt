use Rattle.insert_laws.proofs.First.{law_first}
use Rattle.insert_laws.proofs.laws.law_first.Goals as goal

pub returns : goal.returns
returns c = law_first
