use Rattle.insert_laws.proofs.Sides.{law_place}
use Rattle.insert_laws.proofs.lowest.law_place.Goals as goal

pub returns : goal.returns
returns c = law_place
