use Rattle.std.proofs.Common.{ℕ, ◌<◌}
use Rattle.hole_carve.specs.Flooding.{queue_at}
use Rattle.hole_carve.specs.Seeds.{HoldsOn}
use Rattle.hole_carve.proofs.seeds.is_on_closed.Given as goal
use Rattle.geo_laws.specs.Delaunay.{row_at}

abbrev pub invariant-loop-at : goal.invariant-loop-at
invariant-loop-at l = (i : ℕ) → i < l.at → ¬ HoldsOn l.points l.closed (row_at l.list (queue_at l.holders i)) l.x
