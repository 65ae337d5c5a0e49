use Rattle.insert_laws.proofs.LowestStart.{law_locate}
use Rattle.insert_laws.proofs.lowest.law_locate.Goals as goal

pub returns : goal.returns
returns c = law_locate
