use Rattle.std.proofs.Common.{◌≡◌, ◌≤◌}
use Rattle.segment_protect.specs.Watch.{pieces_of}
use Rattle.segment_protect.specs.Passed.{IsPassed}
use Rattle.segment_protect.proofs.Lost.{AreSearched}
use Rattle.segment_protect.proofs.passed.Passed.first_lost_at.Given as goal

abbrev pub invariant-loop-count : goal.invariant-loop-count
invariant-loop-count l = record {
  pieces : pieces_of l.self.watched.items ≡ pieces_of l.fn.self.watched.items;
  passed : IsPassed l.living.points l.touched l.self;
  least : l.least ≤ l.fn.least;
  searched : AreSearched l.living.points (pieces_of l.fn.self.watched.items) l.v l.count l.least;
}

abbrev pub decreases-loop-count : goal.decreases-loop-count
decreases-loop-count l = l.count
