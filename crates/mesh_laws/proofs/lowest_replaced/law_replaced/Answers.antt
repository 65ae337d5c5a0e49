use Rattle.mesh_laws.proofs.LowestReplacedMesh.{law_replaced}
use Rattle.mesh_laws.proofs.lowest_replaced.law_replaced.Goals as goal

pub returns : goal.returns
returns c = law_replaced
