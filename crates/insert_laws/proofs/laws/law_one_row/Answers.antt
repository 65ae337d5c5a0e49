use Rattle.insert_laws.proofs.Insert.{law_one_row}
use Rattle.insert_laws.proofs.laws.law_one_row.Goals as goal

pub returns : goal.returns
returns c = law_one_row
