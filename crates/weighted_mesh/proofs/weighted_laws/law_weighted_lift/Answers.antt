use Rattle.weighted_mesh.proofs.Weighted.{law_weighted_lift}
use Rattle.weighted_mesh.proofs.weighted_laws.law_weighted_lift.Goals as goal

pub returns : goal.returns
returns c = law_weighted_lift
