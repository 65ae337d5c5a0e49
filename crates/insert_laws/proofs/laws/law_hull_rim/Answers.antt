use Rattle.insert_laws.proofs.Insert.{law_hull_rim}
use Rattle.insert_laws.proofs.laws.law_hull_rim.Goals as goal

pub returns : goal.returns
returns c = law_hull_rim
