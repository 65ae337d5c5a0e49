use Rattle.run_laws.proofs.Signs.{same_signs}
use Rattle.run_laws.proofs.least_grids.law_same_signs.Goals as goal

pub returns : goal.returns
returns c = same_signs
