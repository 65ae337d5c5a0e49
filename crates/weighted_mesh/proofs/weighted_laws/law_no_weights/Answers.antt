use Rattle.weighted_mesh.proofs.Weighted.{law_no_weights}
use Rattle.weighted_mesh.proofs.weighted_laws.law_no_weights.Goals as goal

pub returns : goal.returns
returns c = law_no_weights
