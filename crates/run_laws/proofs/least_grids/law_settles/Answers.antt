use Rattle.run_laws.proofs.Fitting.{settles}
use Rattle.run_laws.proofs.least_grids.law_settles.Goals as goal

pub returns : goal.returns
returns c = settles
