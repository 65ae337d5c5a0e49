use Rattle.complex_mesh.proofs.OneAnswer.{law_one_fault}
use Rattle.complex_mesh.proofs.laws.law_one_fault.Goals as goal

pub returns : goal.returns
returns c = law_one_fault
