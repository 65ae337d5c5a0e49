use Rattle.merged_facets.proofs.Once.{IsCounted}
use Rattle.merged_facets.proofs.beside.has_once.Given as goal

-- how many of the sides so far have the ends, and the others are properly met
abbrev pub invariant-loop-k : goal.invariant-loop-k
invariant-loop-k l = IsCounted l.points l.s l.corners l.k l.places
