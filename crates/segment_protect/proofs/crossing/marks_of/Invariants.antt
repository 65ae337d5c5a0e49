use Rattle.std.proofs.Common.{◌≡◌, take}
use Rattle.segment_protect.specs.Watch.{seen_marks}
use Rattle.segment_protect.proofs.crossing.marks_of.Given as goal

abbrev pub invariant-loop-i : goal.invariant-loop-i
invariant-loop-i l = l.marks.items ≡ seen_marks (take l.i l.watched)
