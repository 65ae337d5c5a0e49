use Rattle.complex_mesh.proofs.OneAnswer.{law_no_fault}
use Rattle.complex_mesh.proofs.laws.law_no_fault.Goals as goal

pub returns : goal.returns
returns c = law_no_fault
