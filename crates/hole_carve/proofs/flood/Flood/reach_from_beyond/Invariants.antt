use Rattle.std.proofs.Common.{◌≡◌, ℕ, ◌<◌, true, length}
use Rattle.hole_carve.specs.Flooding.{IsWay}
use Rattle.hole_carve.specs.Floods.{GoesOn}
use Rattle.hole_carve.proofs.flood.Flood.reach_from_beyond.Given as goal
use Rattle.geo_laws.specs.Marks.{is_marked}

abbrev pub invariant-loop-row : goal.invariant-loop-row
invariant-loop-row l = record {
  goes_on : GoesOn l.ways l.seeds l.fn.self l.self;
  closed : (j : ℕ) → j < l.row → IsWay l.ways j (length l.ways) → is_marked l.self.marks.items j ≡ true;
}
