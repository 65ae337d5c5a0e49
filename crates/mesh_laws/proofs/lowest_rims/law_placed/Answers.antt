use Rattle.mesh_laws.proofs.LowestPlaced.{law_placed}
use Rattle.mesh_laws.proofs.lowest_rims.law_placed.Goals as goal

pub returns : goal.returns
returns c = law_placed
