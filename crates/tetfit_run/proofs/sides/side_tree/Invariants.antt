use Rattle.tetfit_run.proofs.SideBoxes.{holds_at}
use Rattle.box_tree.proofs.Trees.{AreBoxesTo}
use Rattle.tetfit_run.proofs.sides.side_tree.Given as goal

abbrev pub invariant-loop-place : goal.invariant-loop-place
invariant-loop-place l = AreBoxesTo (holds_at l.points l.sides) l.place l.boxes
