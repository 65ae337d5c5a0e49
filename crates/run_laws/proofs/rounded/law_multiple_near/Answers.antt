use Rattle.run_laws.proofs.WithinHalf.{multiple_near_law}
use Rattle.run_laws.proofs.rounded.law_multiple_near.Goals as goal

pub returns : goal.returns
returns c = multiple_near_law
