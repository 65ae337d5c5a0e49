use Rattle.merged_facets.proofs.MergedOnce.{law_one_merging}
use Rattle.merged_facets.proofs.laws.law_one_merging.Goals as goal

pub returns : goal.returns
returns c = law_one_merging
