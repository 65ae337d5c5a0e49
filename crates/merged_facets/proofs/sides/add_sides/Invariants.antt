use Rattle.std.proofs.Common.{◌≡◌, ◌++◌, map}
use Rattle.incidence.proofs.Polygons.{sides_before}
use Rattle.merged_facets.specs.FacetSides.{facet_side}
use Rattle.merged_facets.proofs.sides.add_sides.Given as goal

-- the sides from the corners so far
abbrev pub invariant-loop-k : goal.invariant-loop-k
invariant-loop-k l = l.list ≡ l.initial.list ++ map (facet_side l.facet) (sides_before l.k l.corners)
