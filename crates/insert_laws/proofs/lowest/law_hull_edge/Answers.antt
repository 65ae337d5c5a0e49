use Rattle.insert_laws.proofs.LowestHull.{law_hull_edge}
use Rattle.insert_laws.proofs.lowest.law_hull_edge.Goals as goal

pub returns : goal.returns
returns c = law_hull_edge
