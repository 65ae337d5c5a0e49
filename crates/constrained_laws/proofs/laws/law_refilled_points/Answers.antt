use Rattle.constrained_laws.proofs.Refilled.{law_refilled_points}
use Rattle.constrained_laws.proofs.laws.law_refilled_points.Goals as goal

pub returns : goal.returns
returns c = law_refilled_points
