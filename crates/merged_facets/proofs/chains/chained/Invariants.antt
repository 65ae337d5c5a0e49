use Rattle.std.specs.Prelude.{◌-◌}
use Rattle.merged_facets.specs.Merging.{group_of}
use Rattle.merged_facets.specs.MergedComplex.{AreMemberChains}
use Rattle.merged_facets.proofs.chains.chained.Given as goal

-- the chains from the last facets on
abbrev pub invariant-loop-i : goal.invariant-loop-i
invariant-loop-i l = AreMemberChains (group_of l.merging) l.count (l.count - l.i) l.first.items l.next.items
