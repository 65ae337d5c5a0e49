use Rattle.insert_laws.proofs.LowestInsert.{law_insertion}
use Rattle.insert_laws.proofs.lowest.law_insertion.Goals as goal

pub returns : goal.returns
returns c = law_insertion
