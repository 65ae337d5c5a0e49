use Rattle.insert_laws.proofs.LowestStart.{law_hull_turn}
use Rattle.insert_laws.proofs.lowest.law_hull_turn.Goals as goal

pub returns : goal.returns
returns c = law_hull_turn
