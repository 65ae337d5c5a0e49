use Rattle.merged_facets.specs.Merging.{is_inner}
use Rattle.merged_facets.proofs.Outer.{AreOuterFacets}
use Rattle.merged_facets.proofs.segments.merged_segments.Given as goal

-- the sides of the facets so far
abbrev pub invariant-loop-f : goal.invariant-loop-f
invariant-loop-f l = AreOuterFacets (is_inner l.merging) l.complex l.f l.set
