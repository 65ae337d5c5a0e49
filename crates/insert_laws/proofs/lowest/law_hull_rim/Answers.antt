use Rattle.insert_laws.proofs.Rim.{law_hull_rim}
use Rattle.insert_laws.proofs.lowest.law_hull_rim.Goals as goal

pub returns : goal.returns
returns c = law_hull_rim
