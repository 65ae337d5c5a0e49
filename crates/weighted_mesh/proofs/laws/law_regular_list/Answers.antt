use Rattle.weighted_mesh.proofs.Answering.{regular_list_law}
use Rattle.weighted_mesh.proofs.laws.law_regular_list.Goals as goal

pub returns : goal.returns
returns c = regular_list_law
