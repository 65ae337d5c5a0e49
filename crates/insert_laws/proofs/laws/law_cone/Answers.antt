use Rattle.insert_laws.proofs.Cone.{law_cone}
use Rattle.insert_laws.proofs.laws.law_cone.Goals as goal

pub returns : goal.returns
returns c = law_cone
