use Rattle.std.proofs.Common.{◌≡◌}
use Rattle.tetfit_run.specs.Sides.{first_sides}
use Rattle.tetfit_run.proofs.sides.all_sides.Given as goal

-- the sides of the facets so far
abbrev pub invariant-loop-facet : goal.invariant-loop-facet
invariant-loop-facet l = l.list ≡ first_sides l.complex l.facet
