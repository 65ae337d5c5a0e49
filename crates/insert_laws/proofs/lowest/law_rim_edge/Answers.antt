use Rattle.insert_laws.proofs.Rim.{law_rim_edge}
use Rattle.insert_laws.proofs.lowest.law_rim_edge.Goals as goal

pub returns : goal.returns
returns c = law_rim_edge
