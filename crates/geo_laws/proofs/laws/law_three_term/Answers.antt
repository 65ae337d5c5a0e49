use Rattle.geo_laws.proofs.Determinants.{law_three_term}
use Rattle.geo_laws.proofs.laws.law_three_term.Goals as goal

pub returns : goal.returns
returns c = law_three_term
