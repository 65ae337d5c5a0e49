use Rattle.insert_laws.proofs.SomeRim.{law_some_rim_face}
use Rattle.insert_laws.proofs.lowest.law_some_rim_face.Goals as goal

pub returns : goal.returns
returns c = law_some_rim_face
