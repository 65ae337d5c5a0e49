use Rattle.merged_facets.specs.Segments.{is_outer}
use Rattle.merged_facets.proofs.Outer.{AreOuterTo}
use Rattle.merged_facets.proofs.segments.put_facet.Given as goal

-- the sides of the polygons so far
abbrev pub invariant-loop-q : goal.invariant-loop-q
invariant-loop-q l = AreOuterTo (is_outer l.merging l.number) l.complex.polygons l.facet.first l.q l.initial.set l.set
