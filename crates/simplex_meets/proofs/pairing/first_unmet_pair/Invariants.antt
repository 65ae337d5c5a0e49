use Rattle.simplex_meets.specs.Pairs.{IsLeastTo}
use Rattle.simplex_meets.proofs.pairing.first_unmet_pair.Given as goal

abbrev pub invariant-loop-i : goal.invariant-loop-i
invariant-loop-i l = IsLeastTo l.fn.compared l.points l.parts l.marks l.i l.found
