use Rattle.mesh_laws.proofs.LowestReplacedLists.{law_same_mesh}
use Rattle.mesh_laws.proofs.lowest_replaced.law_same_mesh.Goals as goal

pub returns : goal.returns
returns c = law_same_mesh
