use Rattle.std.proofs.Common.{◌≡◌, length}
use Rattle.segment_protect.specs.Passed.{AreSidesBefore}
use Rattle.segment_protect.specs.Front.{pieces_in, IsWatching}
use Rattle.segment_protect.proofs.front.Front.go_back.Given as goal

abbrev pub invariant-loop-w : goal.invariant-loop-w
invariant-loop-w l = record {
  living : l.self.living ≡ l.fn.self.living;
  pieces : pieces_in l.self ≡ pieces_in l.fn.self;
  watching : IsWatching l.self;
  sides : AreSidesBefore l.self.living.points l.first l.self.passed.watched.items;
}

abbrev pub decreases-loop-w : goal.decreases-loop-w
decreases-loop-w l = length l.self.passed.watched.items
