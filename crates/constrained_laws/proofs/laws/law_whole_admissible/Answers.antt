use Rattle.constrained_laws.proofs.Whole.{law_whole_admissible}
use Rattle.constrained_laws.proofs.laws.law_whole_admissible.Goals as goal

pub returns : goal.returns
returns c = law_whole_admissible
