use Rattle.insert_laws.proofs.Cover.{law_cover}
use Rattle.insert_laws.proofs.lowest.law_cover.Goals as goal

pub returns : goal.returns
returns c = law_cover
