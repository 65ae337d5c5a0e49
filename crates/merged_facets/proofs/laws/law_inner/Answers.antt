use Rattle.merged_facets.proofs.Inner.{law_inner}
use Rattle.merged_facets.proofs.laws.law_inner.Goals as goal

pub returns : goal.returns
returns c = law_inner
