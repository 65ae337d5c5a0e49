use Rattle.facet_plane.specs.Prepared.{AreExtentsTo}
use Rattle.facet_plane.proofs.prepared.blocks_round.Given as goal

abbrev pub invariant-loop-q : goal.invariant-loop-q
invariant-loop-q l = AreExtentsTo l.outlines l.q l.boxes
