use Rattle.facet_recover.specs.Stars.{HoldsRows}
use Rattle.facet_recover.proofs.cavity.star_bounds.Given as goal

abbrev pub invariant-loop-i : goal.invariant-loop-i
invariant-loop-i l = HoldsRows l.points l.list l.from l.i l.bounds
