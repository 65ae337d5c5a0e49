use Rattle.merged_facets.proofs.FacetGroups.{law_group}
use Rattle.merged_facets.proofs.laws.law_group.Goals as goal

pub returns : goal.returns
returns c = law_group
