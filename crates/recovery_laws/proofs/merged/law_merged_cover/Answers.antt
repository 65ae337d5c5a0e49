use Rattle.recovery_laws.proofs.MergedMesh.{law_merged_cover}
use Rattle.recovery_laws.proofs.merged.law_merged_cover.Goals as goal

pub returns : goal.returns
returns c = law_merged_cover
