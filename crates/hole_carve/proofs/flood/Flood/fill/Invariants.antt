use Rattle.std.proofs.Common.{◌≡◌, ℕ, ◌-◌, ◌<◌, ◌≤◌, true, length}
use Rattle.hole_carve.specs.Flooding.{queue_at, IsClosedFrom}
use Rattle.hole_carve.specs.Floods.{GoesOn}
use Rattle.hole_carve.proofs.flood.Flood.fill.Given as goal
use Rattle.geo_laws.specs.Marks.{is_marked}

abbrev pub invariant-loop-place : goal.invariant-loop-place
invariant-loop-place l = record {
  goes_on : GoesOn l.ways l.seeds l.fn.self l.self;
  seeded : (v : ℕ) → v < l.place → is_marked l.seeds v ≡ true → is_marked l.self.marks.items v ≡ true;
}

abbrev pub invariant-loop-at : goal.invariant-loop-at
invariant-loop-at l = record {
  inside : l.at ≤ length l.self.queue.items;
  goes_on : GoesOn l.ways l.seeds l.fn.self l.self;
  seeded : (v : ℕ) → is_marked l.seeds v ≡ true → is_marked l.self.marks.items v ≡ true;
  done : (q : ℕ) → q < l.at → IsClosedFrom l.ways l.self.marks.items (queue_at l.self.queue.items q);
}

abbrev pub decreases-loop-at : goal.decreases-loop-at
decreases-loop-at l = length l.seeds - l.at
