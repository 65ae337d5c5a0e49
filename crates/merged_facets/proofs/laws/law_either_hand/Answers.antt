use Rattle.merged_facets.proofs.FacetGroups.{law_either_hand}
use Rattle.merged_facets.proofs.laws.law_either_hand.Goals as goal

pub returns : goal.returns
returns c = law_either_hand
