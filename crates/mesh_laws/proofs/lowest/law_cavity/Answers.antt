use Rattle.mesh_laws.proofs.LowestWhole.{law_cavity}
use Rattle.mesh_laws.proofs.lowest.law_cavity.Goals as goal

pub returns : goal.returns
returns c = law_cavity
