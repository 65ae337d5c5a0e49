use Rattle.insert_laws.proofs.LowestFirst.{law_first}
use Rattle.insert_laws.proofs.lowest.law_first.Goals as goal

pub returns : goal.returns
returns c = law_first
