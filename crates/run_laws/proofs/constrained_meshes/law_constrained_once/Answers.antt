use Rattle.run_laws.proofs.Once.{law_constrained_once}
use Rattle.run_laws.proofs.constrained_meshes.law_constrained_once.Goals as goal

pub returns : goal.returns
returns c = law_constrained_once
