use Rattle.geo_laws.proofs.Cover.{law_cover}
use Rattle.geo_laws.proofs.laws.law_cover.Goals as goal

pub returns : goal.returns
returns c = law_cover
