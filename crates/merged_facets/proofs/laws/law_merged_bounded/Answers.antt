use Rattle.merged_facets.proofs.Planes.{law_merged_bounded}
use Rattle.merged_facets.proofs.laws.law_merged_bounded.Goals as goal

pub returns : goal.returns
returns c = law_merged_bounded
