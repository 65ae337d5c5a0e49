use Rattle.insert_laws.proofs.LowestInsert.{law_face_pairing}
use Rattle.insert_laws.proofs.lowest.law_face_pairing.Goals as goal

pub returns : goal.returns
returns c = law_face_pairing
