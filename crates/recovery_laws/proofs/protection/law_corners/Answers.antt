use Rattle.recovery_laws.proofs.Start.{law_corners}
use Rattle.recovery_laws.proofs.protection.law_corners.Goals as goal

pub returns : goal.returns
returns c = law_corners
