use Rattle.std.proofs.Common.{ℕ, ◌<◌}
use Rattle.point_locate.proofs.Shapes.{IsNotAt}
use Rattle.point_locate.proofs.walk.scan.Given as goal

abbrev pub invariant-loop-i : goal.invariant-loop-i
invariant-loop-i l = (s : ℕ) → s < l.i → IsNotAt l.arena.slots l.points l.p s
