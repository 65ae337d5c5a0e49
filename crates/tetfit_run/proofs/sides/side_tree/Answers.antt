use Rattle.std.proofs.Common.{◌+◌, subst, sym, arith, length, get_or}
use Rattle.box_tree.proofs.Lists.{if_ok}
use Rattle.box_tree.proofs.Trees.{AreBoxesTo, boxes_none, boxes_more, tree_over}
use Rattle.tetfit_run.specs.Sides.{HoldsSide}
use Rattle.tetfit_run.proofs.SideBoxes.{holds_at}
use Rattle.tetfit_run.proofs.sides.side_tree.Goals as goal

pub loop-place-init : goal.loop-place-init
loop-place-init c = subst (AreBoxesTo (holds_at c.args.points.now c.args.sides.now) 0) (sym c.in_ok-boxes.ensures) (boxes_none (holds_at c.args.points.now c.args.sides.now))

pub loop-place-preserved : goal.loop-place-preserved
loop-place-preserved c =
    let ps = c.args.points.now in
    let sides = c.args.sides.now in
    let k = c.loop-place.place in
    subst (AreBoxesTo (holds_at ps sides) (k + 1)) (sym c.in_ok-push.ensures.ok)
    (boxes_more (holds_at ps sides) k c.loop-place.boxes c.box_of.result c.loop-place.invariant c.box_of.ensures.place
    (λ d. subst (HoldsSide ps (get_or sides k d).side) (sym c.box_of.ensures.bounds) (c.bounds_at.ensures d)))

pub returns : goal.returns
returns c =
    let holds = holds_at c.args.points.now c.args.sides.now in
    if_ok c.tree_of.result
    (λ nodes h. tree_over holds (length c.args.sides.now) c.loop-place.boxes nodes (subst (λ n. AreBoxesTo holds n c.loop-place.boxes) (omega arith) c.loop-place.invariant) h)
    c.tree_of.ensures
