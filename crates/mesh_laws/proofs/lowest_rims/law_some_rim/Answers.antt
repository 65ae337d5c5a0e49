use Rattle.mesh_laws.proofs.LowestSomeRim.{law_some_rim}
use Rattle.mesh_laws.proofs.lowest_rims.law_some_rim.Goals as goal

pub returns : goal.returns
returns c = law_some_rim
