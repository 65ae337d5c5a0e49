use Rattle.recovery_laws.proofs.ProtectedComplex.{law_sound}
use Rattle.recovery_laws.proofs.protection.law_sound.Goals as goal

pub returns : goal.returns
returns c = law_sound
