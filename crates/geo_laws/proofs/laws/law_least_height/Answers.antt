use Rattle.geo_laws.proofs.LeastHeight.{law_least_height}
use Rattle.geo_laws.proofs.laws.law_least_height.Goals as goal

pub returns : goal.returns
returns c = law_least_height
