use Rattle.merged_facets.proofs.FacetGroups.{law_wall}
use Rattle.merged_facets.proofs.laws.law_wall.Goals as goal

pub returns : goal.returns
returns c = law_wall
