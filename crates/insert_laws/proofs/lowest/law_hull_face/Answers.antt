use Rattle.insert_laws.proofs.LowestLists.{law_hull_face}
use Rattle.insert_laws.proofs.lowest.law_hull_face.Goals as goal

pub returns : goal.returns
returns c = law_hull_face
