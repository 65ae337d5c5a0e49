use Rattle.solver_files.proofs.SecondTexts.{law_second_face_text}
use Rattle.solver_files.proofs.second_laws.law_second_face_text.Goals as goal

pub returns : goal.returns
returns c = law_second_face_text
