use Rattle.std.specs.List.{AllWithin}
use Rattle.constrained_laws.specs.Constrained.{IsCornerOfSome}
use Rattle.tangle_fill.specs.Change.{KeepsMarks, MarksOnly, IsMarkedRow}
use Rattle.tangle_fill.proofs.change.mark_rows.Given as goal

abbrev pub invariant-loop-i : goal.invariant-loop-i
invariant-loop-i l =
    AllWithin (IsMarkedRow l.marks.items) l.rows 0 l.i × KeepsMarks l.fn.marks.items l.marks.items
    × MarksOnly (IsCornerOfSome l.rows) l.fn.marks.items l.marks.items
