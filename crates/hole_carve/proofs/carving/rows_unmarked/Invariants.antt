use Rattle.std.proofs.Common.{◌≡◌}
use Rattle.std.specs.Prelude.{take}
use Rattle.hole_carve.specs.Kept.{unmarked}
use Rattle.hole_carve.proofs.carving.rows_unmarked.Given as goal

abbrev pub invariant-loop-at : goal.invariant-loop-at
invariant-loop-at l = l.rows ≡ unmarked (take l.at l.list) l.marks
