use Rattle.constrained_laws.proofs.Edges.{law_kept_piece}
use Rattle.constrained_laws.proofs.laws.law_kept_piece.Goals as goal

pub returns : goal.returns
returns c = law_kept_piece
