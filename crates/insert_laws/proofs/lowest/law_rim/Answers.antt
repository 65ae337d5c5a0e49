use Rattle.insert_laws.proofs.LowestInsert.{law_rim}
use Rattle.insert_laws.proofs.lowest.law_rim.Goals as goal

pub returns : goal.returns
returns c = law_rim
