use Rattle.merged_facets.specs.Merging.{group_of}
use Rattle.merged_facets.proofs.Parts.{AreMerged}
use Rattle.merged_facets.proofs.complex.merged_complex.Given as goal

-- the facets so far
abbrev pub invariant-loop-f : goal.invariant-loop-f
invariant-loop-f l = AreMerged (group_of l.merging) l.complex l.f l.made
