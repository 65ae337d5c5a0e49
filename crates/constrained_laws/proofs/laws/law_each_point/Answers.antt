use Rattle.constrained_laws.proofs.EachPoint.{law_each_point}
use Rattle.constrained_laws.proofs.laws.law_each_point.Goals as goal

pub returns : goal.returns
returns c = law_each_point
