use Rattle.insert_laws.proofs.Start.{law_locate}
use Rattle.insert_laws.proofs.laws.law_locate.Goals as goal

pub returns : goal.returns
returns c = law_locate
