use Rattle.facet_laws.proofs.Pieces.{law_bounded}
use Rattle.facet_laws.proofs.laws.law_bounded.Goals as goal

pub returns : goal.returns
returns c = law_bounded
