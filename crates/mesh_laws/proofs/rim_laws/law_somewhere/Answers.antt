use Rattle.mesh_laws.proofs.Somewhere.{law_somewhere}
use Rattle.mesh_laws.proofs.rim_laws.law_somewhere.Goals as goal

pub returns : goal.returns
returns c = law_somewhere
