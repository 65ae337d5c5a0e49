use Rattle.std.proofs.Common.{◌≡◌, length}
use Rattle.cavity_insert.proofs.Marking.{Clearing}
use Rattle.cavity_insert.proofs.marks.MarkedCavity.clear.Given as goal

abbrev pub invariant-loop-left : goal.invariant-loop-left
invariant-loop-left l = record { count : l.left ≡ length l.self-inside.found; clearing : Clearing l.self-inside.found l.self-inside.marks.items }

abbrev pub decreases-loop-left : goal.decreases-loop-left
decreases-loop-left l = l.left
