use Rattle.insert_laws.proofs.Insert.{law_rim_edge}
use Rattle.insert_laws.proofs.laws.law_rim_edge.Goals as goal

pub returns : goal.returns
returns c = law_rim_edge
