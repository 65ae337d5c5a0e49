use Rattle.std.proofs.Common.{◌≡◌, ℕ, ◌<◌, ◌≤◌}
use Rattle.hole_carve.proofs.marks.place_from.Given as goal
use Rattle.geo_laws.specs.Delaunay.{row_at}

abbrev pub invariant-loop-at : goal.invariant-loop-at
invariant-loop-at l = (k : ℕ) → l.from ≤ k → k < l.at → ¬ (row_at l.list k ≡ l.row)
