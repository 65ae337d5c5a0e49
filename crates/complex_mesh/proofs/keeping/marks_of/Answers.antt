use Rattle.hole_carve.proofs.KeptMarks.{law_kept_marks}
use Rattle.complex_mesh.proofs.keeping.marks_of.Goals as goal

pub returns : goal.returns
returns c =
    law_kept_marks c.requires.carved.0 c.args.points.now c.args.triangles.now c.args.whole.now c.args.complex.now.holes c.args.complex.now.regions c.args.kept.now c.in_ok-marks.marks c.in_ok-own.own
    c.requires.filling c.requires.carved.1.weights c.requires.regions c.requires.carved.1.kept c.in_ok-marks.ensures c.in_ok-own.ensures

pub kept_marks-requires-clause-kept_ascending : goal.kept_marks-requires-clause-kept_ascending
kept_marks-requires-clause-kept_ascending c = c.requires.carved.1.ascending

pub kept_marks-requires-clause-part : goal.kept_marks-requires-clause-part
kept_marks-requires-clause-part c = c.requires.carved.1.kept.of_whole
