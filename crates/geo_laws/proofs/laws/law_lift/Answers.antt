use Rattle.geo_laws.proofs.Lift.{law_lift}
use Rattle.geo_laws.proofs.laws.law_lift.Goals as goal

pub returns : goal.returns
returns c = law_lift
