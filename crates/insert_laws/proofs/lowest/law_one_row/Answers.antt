use Rattle.insert_laws.proofs.LowestInsert.{law_one_row}
use Rattle.insert_laws.proofs.lowest.law_one_row.Goals as goal

pub returns : goal.returns
returns c = law_one_row
