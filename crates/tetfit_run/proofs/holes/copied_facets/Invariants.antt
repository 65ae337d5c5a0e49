use Rattle.tetfit_run.specs.Holes.{IsCopiedTo}
use Rattle.tetfit_run.proofs.holes.copied_facets.Given as goal

abbrev pub invariant-loop-i : goal.invariant-loop-i
invariant-loop-i l = IsCopiedTo l.complex l.i l.made
