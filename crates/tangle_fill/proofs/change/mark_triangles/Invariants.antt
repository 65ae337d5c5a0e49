use Rattle.tangle_fill.specs.Change.{KeepsMarks}
use Rattle.tangle_fill.proofs.change.mark_triangles.Given as goal

abbrev pub invariant-loop-i : goal.invariant-loop-i
invariant-loop-i l = KeepsMarks l.fn.marks.items l.marks.items
