use Rattle.insert_laws.proofs.Insert.{law_place}
use Rattle.insert_laws.proofs.laws.law_place.Goals as goal

pub returns : goal.returns
returns c = law_place
