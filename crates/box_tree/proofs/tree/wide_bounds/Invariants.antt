use Rattle.box_tree.specs.Tree.{HoldsFrom}
use Rattle.box_tree.proofs.tree.wide_bounds.Given as goal

abbrev pub invariant-loop-i : goal.invariant-loop-i
invariant-loop-i l = HoldsFrom l.boxes l.from l.i l.wide
