use Rattle.facet_laws.proofs.Inner.{law_common_side}
use Rattle.facet_laws.proofs.laws.law_common_side.Goals as goal

pub returns : goal.returns
returns c = law_common_side
