use Rattle.insert_laws.proofs.Hull.{law_hull_turn}
use Rattle.insert_laws.proofs.laws.law_hull_turn.Goals as goal

pub returns : goal.returns
returns c = law_hull_turn
