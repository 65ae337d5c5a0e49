use Rattle.mesh_laws.proofs.LowestCutOut.{law_cut_out}
use Rattle.mesh_laws.proofs.lowest.law_cut_out.Goals as goal

pub returns : goal.returns
returns c = law_cut_out
