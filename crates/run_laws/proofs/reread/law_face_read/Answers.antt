use Rattle.run_laws.proofs.Rows.{face_read}
use Rattle.run_laws.proofs.reread.law_face_read.Goals as goal

pub returns : goal.returns
returns c = face_read
