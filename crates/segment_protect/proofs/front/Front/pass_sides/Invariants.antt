use Rattle.std.proofs.Common.{◌≡◌, length}
use Rattle.segment_protect.specs.Front.{pieces_in, IsWatching, HasPassedSides}
use Rattle.segment_protect.proofs.front.Front.pass_sides.Given as goal

abbrev pub invariant-loop-self : goal.invariant-loop-self
invariant-loop-self l = record {
  living : l.self.living ≡ l.fn.self.living;
  pieces : pieces_in l.self ≡ pieces_in l.fn.self;
  watching : IsWatching l.self;
  sides : HasPassedSides l.self;
}

abbrev pub decreases-loop-self : goal.decreases-loop-self
decreases-loop-self l = length l.self.rest.items
