use Rattle.mesh_laws.proofs.ReplacedLists.{law_longer_list}
use Rattle.mesh_laws.proofs.replaced.law_longer_list.Goals as goal

pub returns : goal.returns
returns c = law_longer_list
