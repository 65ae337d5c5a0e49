use Rattle.hole_carve.specs.Marks.{IsPutFrom}
use Rattle.hole_carve.proofs.marks.put_from.Given as goal

abbrev pub invariant-loop-at : goal.invariant-loop-at
invariant-loop-at l = IsPutFrom l.queue l.from l.at l.number l.fn.marks l.marks
