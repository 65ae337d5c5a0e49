use Rattle.merged_facets.specs.MergedComplex.{AreNone}
use Rattle.merged_facets.proofs.chains.nothing.Given as goal

-- so far
abbrev pub invariant-loop-i : goal.invariant-loop-i
invariant-loop-i l = AreNone l._i l.list.items
