use Rattle.mesh_laws.proofs.LowestPaired.{law_paired}
use Rattle.mesh_laws.proofs.lowest_rims.law_paired.Goals as goal

pub returns : goal.returns
returns c = law_paired
