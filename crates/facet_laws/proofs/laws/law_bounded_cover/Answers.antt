use Rattle.facet_laws.proofs.InnerCover.{law_bounded_cover}
use Rattle.facet_laws.proofs.laws.law_bounded_cover.Goals as goal

pub returns : goal.returns
returns c = law_bounded_cover
