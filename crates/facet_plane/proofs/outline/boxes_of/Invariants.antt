use Rattle.facet_plane.specs.Outline.{AreBoxesTo}
use Rattle.facet_plane.proofs.outline.boxes_of.Given as goal

abbrev pub invariant-loop-i : goal.invariant-loop-i
invariant-loop-i l = AreBoxesTo l.sides l.i l.boxes
