use Rattle.plc_files.specs.Folding.{IsFoldedTo}
use Rattle.plc_files.proofs.folding.folded_facets.Given as goal

abbrev pub invariant-loop-i : goal.invariant-loop-i
invariant-loop-i l = IsFoldedTo l.folded l.complex l.i l.made
