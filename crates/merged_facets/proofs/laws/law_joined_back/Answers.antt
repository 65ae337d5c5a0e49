use Rattle.merged_facets.proofs.FacetGroups.{law_joined_back}
use Rattle.merged_facets.proofs.laws.law_joined_back.Goals as goal

pub returns : goal.returns
returns c = law_joined_back
