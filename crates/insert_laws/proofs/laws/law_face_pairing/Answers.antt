use Rattle.insert_laws.proofs.Insert.{law_face_pairing}
use Rattle.insert_laws.proofs.laws.law_face_pairing.Goals as goal

pub returns : goal.returns
returns c = law_face_pairing
