use Rattle.incidence.specs.Chains.{AreLinkedFaces}
use Rattle.incidence.proofs.chains.chains_of.Given as goal

-- the faces from a place on are chained
abbrev pub invariant-loop-at : goal.invariant-loop-at
invariant-loop-at l = AreLinkedFaces l.faces l.at l.first.items l.next.items

abbrev pub decreases-loop-at : goal.decreases-loop-at
decreases-loop-at l = l.at
