use Rattle.insert_laws.proofs.HullLaws.{law_old_hull}
use Rattle.insert_laws.proofs.lowest.law_old_hull.Goals as goal

pub returns : goal.returns
returns c = law_old_hull
