use Rattle.merged_facets.specs.MergedComplex.{HasParts, with_polygons}
use Rattle.merged_facets.proofs.complex.add_polygons.Given as goal

-- the polygons so far
abbrev pub invariant-loop-q : goal.invariant-loop-q
invariant-loop-q l = HasParts l.complex.polygons l.initial.made (with_polygons l.complex.polygons l.facet.first l.q) l.made
