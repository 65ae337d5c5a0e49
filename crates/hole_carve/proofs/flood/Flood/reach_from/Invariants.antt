use Rattle.std.proofs.Common.{◌≡◌, ℕ, ◌<◌, true, Some}
use Rattle.hole_carve.specs.Flooding.{way}
use Rattle.hole_carve.specs.Floods.{GoesOn}
use Rattle.hole_carve.proofs.flood.Flood.reach_from.Given as goal
use Rattle.incidence.specs.Pairs.{across_at}
use Rattle.geo_laws.specs.Marks.{is_marked}

abbrev pub invariant-loop-corner : goal.invariant-loop-corner
invariant-loop-corner l = record {
  goes_on : GoesOn l.ways l.seeds l.fn.self l.self;
  closed : (k j : ℕ) → k < l.corner → way (across_at l.ways l.row) k ≡ Some j → is_marked l.self.marks.items j ≡ true;
}
