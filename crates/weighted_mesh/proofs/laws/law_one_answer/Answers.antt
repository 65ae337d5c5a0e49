use Rattle.weighted_mesh.proofs.Answering.{one_answer_law}
use Rattle.weighted_mesh.proofs.laws.law_one_answer.Goals as goal

pub returns : goal.returns
returns c = one_answer_law
