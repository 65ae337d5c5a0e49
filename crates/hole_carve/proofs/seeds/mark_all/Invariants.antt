use Rattle.std.proofs.Common.{◌≡◌, ◌⊎◌, ℕ, ◌<◌, true, length}
use Rattle.std.specs.Prelude.{◌↔◌}
use Rattle.hole_carve.specs.Flooding.{queue_at}
use Rattle.hole_carve.proofs.seeds.mark_all.Given as goal
use Rattle.geo_laws.specs.Marks.{is_marked}

abbrev pub invariant-loop-at : goal.invariant-loop-at
invariant-loop-at l = record {
  long : length l.marks ≡ length l.fn.marks;
  marked : (i : ℕ) → (is_marked l.marks i ≡ true) ↔ ((is_marked l.fn.marks i ≡ true) ⊎ (k : ℕ) × (k < l.at) × (queue_at l.places k ≡ i));
}
