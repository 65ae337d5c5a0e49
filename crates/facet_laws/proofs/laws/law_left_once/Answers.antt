use Rattle.facet_laws.proofs.Once.{law_left_once}
use Rattle.facet_laws.proofs.laws.law_left_once.Goals as goal

pub returns : goal.returns
returns c = law_left_once
