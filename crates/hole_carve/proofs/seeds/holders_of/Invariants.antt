use Rattle.std.proofs.Common.{ℕ, ◌<◌}
use Rattle.std.specs.Prelude.{◌↔◌, Contains}
use Rattle.hole_carve.specs.Seeds.{RowHolds}
use Rattle.hole_carve.proofs.seeds.holders_of.Given as goal

abbrev pub invariant-loop-at : goal.invariant-loop-at
invariant-loop-at l = (i : ℕ) → Contains l.holders.items i ↔ ((i < l.at) × RowHolds l.points l.list l.x i)
