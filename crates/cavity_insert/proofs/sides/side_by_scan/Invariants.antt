use Rattle.std.proofs.Common.{ℕ, ◌<◌}
use Rattle.point_locate.specs.Place.{IsAt}
use Rattle.cavity_insert.specs.Living.{HasBoth}
use Rattle.cavity_insert.proofs.sides.side_by_scan.Given as goal

abbrev pub invariant-loop-i : goal.invariant-loop-i
invariant-loop-i l = (s : ℕ) → s < l.i → IsAt l.arena.slots (λ cs. HasBoth cs l.a l.b) s → ⊥
