use Rattle.merged_facets.specs.Labels.{IsIdentity}
use Rattle.merged_facets.proofs.merging.alone.Given as goal

-- the facets so far
abbrev pub invariant-loop-facet : goal.invariant-loop-facet
invariant-loop-facet l = IsIdentity l.down.items l.facet
