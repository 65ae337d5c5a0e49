use Rattle.merged_facets.specs.FacetSides.{AreSidesBelow}
use Rattle.merged_facets.proofs.sides.facet_sides.Given as goal

-- the sides of the facets so far
abbrev pub invariant-loop-facet : goal.invariant-loop-facet
invariant-loop-facet l = AreSidesBelow l.complex l.facet l.list
