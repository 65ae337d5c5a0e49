use Rattle.std.proofs.Common.{◌≡◌, map, take}
use Rattle.std.specs.Prelude.{option_and_then}
use Rattle.tet_shapes.specs.Bounds.{limit_most}
use Rattle.tet_shapes.proofs.bounds.region_bounds.Given as goal

abbrev pub invariant-loop-limit : goal.invariant-loop-limit
invariant-loop-limit l = l.regions ≡ map (option_and_then (limit_most l.grid)) (take l.limit-index l.limits)
