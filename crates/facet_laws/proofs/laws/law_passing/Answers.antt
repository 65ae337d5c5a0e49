use Rattle.facet_laws.proofs.Passed.{law_passing}
use Rattle.facet_laws.proofs.laws.law_passing.Goals as goal

pub returns : goal.returns
returns c = law_passing
