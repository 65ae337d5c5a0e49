use Rattle.geo_laws.proofs.Radical.{law_radical}
use Rattle.geo_laws.proofs.laws.law_radical.Goals as goal

pub returns : goal.returns
returns c = law_radical
