use Rattle.recovery_laws.proofs.ProtectedComplex.{law_protected_complex}
use Rattle.recovery_laws.proofs.protection.law_protected_complex.Goals as goal

pub returns : goal.returns
returns c = law_protected_complex
