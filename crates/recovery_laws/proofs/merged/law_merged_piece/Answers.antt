use Rattle.recovery_laws.proofs.MergedMesh.{law_merged_piece}
use Rattle.recovery_laws.proofs.merged.law_merged_piece.Goals as goal

pub returns : goal.returns
returns c = law_merged_piece
