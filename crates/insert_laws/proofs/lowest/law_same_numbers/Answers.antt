use Rattle.insert_laws.proofs.LowestLists.{law_same_numbers}
use Rattle.insert_laws.proofs.lowest.law_same_numbers.Goals as goal

pub returns : goal.returns
returns c = law_same_numbers
