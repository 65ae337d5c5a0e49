use Rattle.hole_carve.proofs.KeptMarks.{law_kept_marks}
use Rattle.hole_carve.proofs.marks.law_kept_marks.Goals as goal

pub returns : goal.returns
returns c = law_kept_marks
