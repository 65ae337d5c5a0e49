use Rattle.constrained_laws.proofs.Grown.{law_grown_admissible}
use Rattle.constrained_laws.proofs.laws.law_grown_admissible.Goals as goal

pub returns : goal.returns
returns c = law_grown_admissible
