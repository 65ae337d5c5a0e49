use Rattle.insert_laws.proofs.LowestCone.{law_cone}
use Rattle.insert_laws.proofs.lowest.law_cone.Goals as goal

pub returns : goal.returns
returns c = law_cone
