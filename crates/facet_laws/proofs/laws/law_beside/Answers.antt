use Rattle.facet_laws.proofs.Common.{law_beside}
use Rattle.facet_laws.proofs.laws.law_beside.Goals as goal

pub returns : goal.returns
returns c = law_beside
