use Rattle.insert_laws.proofs.Hull.{law_new_hull}
use Rattle.insert_laws.proofs.laws.law_new_hull.Goals as goal

pub returns : goal.returns
returns c = law_new_hull
