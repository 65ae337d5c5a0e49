use Rattle.constrained_laws.proofs.Sight.{law_hidden_corner}
use Rattle.constrained_laws.proofs.laws.law_hidden_corner.Goals as goal

pub returns : goal.returns
returns c = law_hidden_corner
