use Rattle.box_tree.proofs.Trees.{AreBoxesTo}
use Rattle.simplex_meets.specs.Boxes.{HoldsPart}
use Rattle.simplex_meets.proofs.bounding.part_tree.Given as goal

abbrev pub invariant-loop-place : goal.invariant-loop-place
invariant-loop-place l = AreBoxesTo (HoldsPart l.points l.parts) l.place l.boxes
