use Rattle.geo_laws.proofs.Hull.{law_hull}
use Rattle.geo_laws.proofs.laws.law_hull.Goals as goal

pub returns : goal.returns
returns c = law_hull
