use Rattle.facet_laws.proofs.First.{law_first_side}
use Rattle.facet_laws.proofs.laws.law_first_side.Goals as goal

pub returns : goal.returns
returns c = law_first_side
