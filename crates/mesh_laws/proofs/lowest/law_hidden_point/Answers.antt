use Rattle.mesh_laws.proofs.LowestWhole.{law_hidden_point}
use Rattle.mesh_laws.proofs.lowest.law_hidden_point.Goals as goal

pub returns : goal.returns
returns c = law_hidden_point
