use Rattle.box_tree.specs.Tree.{AreNodes}
use Rattle.box_tree.proofs.tree.nodes_of.Given as goal

abbrev pub invariant-loop-i : goal.invariant-loop-i
invariant-loop-i l = AreNodes l.boxes l.i l.nodes
