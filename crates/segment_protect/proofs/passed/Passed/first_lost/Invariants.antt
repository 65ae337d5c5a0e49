use Rattle.std.proofs.Common.{◌≡◌, take}
use Rattle.segment_protect.specs.Watch.{pieces_of}
use Rattle.segment_protect.specs.Passed.{IsPassed}
use Rattle.segment_protect.proofs.Lost.{AreSidesOf}
use Rattle.segment_protect.proofs.passed.Passed.first_lost.Given as goal

abbrev pub invariant-loop-v : goal.invariant-loop-v
invariant-loop-v l = record {
  pieces : pieces_of l.self.watched.items ≡ pieces_of l.fn.self.watched.items;
  passed : IsPassed l.living.points l.touched l.self;
  sides : AreSidesOf l.living.points (take l.v-index l.lost) l.least (pieces_of l.fn.self.watched.items);
}
