use Rattle.insert_laws.proofs.Hull.{law_old_hull}
use Rattle.insert_laws.proofs.laws.law_old_hull.Goals as goal

pub returns : goal.returns
returns c = law_old_hull
