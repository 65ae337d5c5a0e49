use Rattle.recovery_laws.proofs.Pieces.{law_two_ends}
use Rattle.recovery_laws.proofs.protection.law_two_ends.Goals as goal

pub returns : goal.returns
returns c = law_two_ends
