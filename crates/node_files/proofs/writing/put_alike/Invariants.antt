use Rattle.std.proofs.Common.{◌≡◌, ◌++◌, ◌+◌, drop}
use Rattle.node_files.specs.Writing.{like_lines}
use Rattle.node_files.proofs.writing.put_alike.Given as goal

abbrev pub invariant-loop-i : goal.invariant-loop-i
invariant-loop-i l = l.out ++ like_lines l.frame.origin l.frame.grid (l.first + l.i) (drop l.i l.points) l.attributes l.markers ≡ l.fn.out ++ like_lines l.frame.origin l.frame.grid l.first l.points l.attributes l.markers
