use Rattle.insert_laws.proofs.HullLaws.{law_new_hull}
use Rattle.insert_laws.proofs.lowest.law_new_hull.Goals as goal

pub returns : goal.returns
returns c = law_new_hull
