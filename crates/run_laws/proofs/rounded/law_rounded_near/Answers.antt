use Rattle.run_laws.proofs.WithinHalf.{rounded_near}
use Rattle.run_laws.proofs.rounded.law_rounded_near.Goals as goal

pub returns : goal.returns
returns c = rounded_near
