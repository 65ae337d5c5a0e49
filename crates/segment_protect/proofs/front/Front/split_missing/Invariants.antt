use Rattle.std.proofs.Common.{◌≡◌, ◌+◌, length}
use Rattle.geo_laws.specs.Segment.{protect}
use Rattle.segment_protect.specs.Front.{pieces_in, IsFront}
use Rattle.segment_protect.proofs.front.Front.split_missing.Given as goal

abbrev pub invariant-loop-left : goal.invariant-loop-left
invariant-loop-left l =
    IsFront l.self l.depth
    × (protect l.depth l.budget l.fn.self.living.points (pieces_in l.fn.self) ≡ protect l.depth l.left l.self.living.points (pieces_in l.self))
    × (length l.self.living.points + l.left ≡ length l.fn.self.living.points + l.budget)

abbrev pub decreases-loop-left : goal.decreases-loop-left
decreases-loop-left l = l.left
