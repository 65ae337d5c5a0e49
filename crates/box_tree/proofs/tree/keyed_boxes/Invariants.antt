use Rattle.box_tree.specs.Tree.{AreKeyed}
use Rattle.box_tree.proofs.tree.keyed_boxes.Given as goal

abbrev pub invariant-loop-i : goal.invariant-loop-i
invariant-loop-i l = AreKeyed l.boxes l.i l.keyed
