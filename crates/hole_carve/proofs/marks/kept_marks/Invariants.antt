use Rattle.std.proofs.Common.{◌≡◌, ℕ, ◌<◌, ◌≤◌, length}
use Rattle.hole_carve.specs.Marks.{mark_at}
use Rattle.hole_carve.proofs.marks.kept_marks.Given as goal
use Rattle.geo_laws.specs.Delaunay.{row_at}

abbrev pub invariant-loop-at : goal.invariant-loop-at
invariant-loop-at l = record {
  within : l.place ≤ length l.list;
  ahead : (k j : ℕ) → l.at ≤ k → k < length l.kept → j < length l.list → row_at l.list j ≡ row_at l.kept k → l.place ≤ j;
  long : length l.own ≡ l.at;
  each : (k j : ℕ) → k < l.at → j < length l.list → row_at l.list j ≡ row_at l.kept k → mark_at l.own k ≡ mark_at l.marks j;
}
