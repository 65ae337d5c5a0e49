use Rattle.insert_laws.proofs.Lists.{law_start_of_list}
use Rattle.insert_laws.proofs.laws.law_start_of_list.Goals as goal

pub returns : goal.returns
returns c = law_start_of_list
