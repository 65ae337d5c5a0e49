use Rattle.recovery_laws.proofs.Start.{law_multiples}
use Rattle.recovery_laws.proofs.protection.law_multiples.Goals as goal

pub returns : goal.returns
returns c = law_multiples
