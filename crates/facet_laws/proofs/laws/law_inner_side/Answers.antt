use Rattle.facet_laws.proofs.Inner.{law_inner_side}
use Rattle.facet_laws.proofs.laws.law_inner_side.Goals as goal

pub returns : goal.returns
returns c = law_inner_side
