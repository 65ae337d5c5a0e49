use Rattle.std.proofs.Common.{◌≡◌, ℕ, ◌<◌, true, length}
use Rattle.incidence.specs.Chains.{face_at}
use Rattle.incidence.proofs.beginnings.beginnings_of.Given as goal
use Rattle.geo_laws.specs.Marks.{is_marked}

abbrev pub invariant-loop-at : goal.invariant-loop-at
invariant-loop-at l = record {
  within : (k : ℕ) → k < length l.faces → (face_at l.faces k).a < length l.begins.items;
  marked : (k : ℕ) → k < l.at → is_marked l.begins.items ((face_at l.faces k).a) ≡ true;
}
