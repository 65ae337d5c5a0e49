use Rattle.geo_laws.proofs.LeastHeight.{law_residual}
use Rattle.geo_laws.proofs.laws.law_residual.Goals as goal

pub returns : goal.returns
returns c = law_residual
