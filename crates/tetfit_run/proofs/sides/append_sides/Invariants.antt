use Rattle.std.proofs.Common.{◌≡◌, ◌++◌, take}
use Rattle.std.specs.Prelude.{map}
use Rattle.tetfit_run.specs.Sides.{side_of}
use Rattle.tetfit_run.proofs.sides.append_sides.Given as goal

abbrev pub invariant-loop-side : goal.invariant-loop-side
invariant-loop-side l = l.list ≡ l.initial.list ++ map (side_of l.facet) (take l.side-index l.sides)
