use Rattle.path_laws.proofs.Legs.{law_leg}
use Rattle.path_laws.proofs.laws.law_leg.Goals as goal

pub returns : goal.returns
returns c = law_leg
