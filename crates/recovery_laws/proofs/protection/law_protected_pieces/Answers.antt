use Rattle.recovery_laws.proofs.Pieces.{law_protected_pieces}
use Rattle.recovery_laws.proofs.protection.law_protected_pieces.Goals as goal

pub returns : goal.returns
returns c = law_protected_pieces
