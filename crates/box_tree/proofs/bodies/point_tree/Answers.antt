use Rattle.std.proofs.Common.{◌+◌, subst, sym, arith, length}
use Rattle.sign_predicates.specs.Point.{origin}
use Rattle.geo_laws.specs.Delaunay.{point}
use Rattle.box_tree.specs.Bounds.{HoldsPoint}
use Rattle.box_tree.proofs.Lists.{if_ok}
use Rattle.box_tree.proofs.Trees.{AreBoxesTo, boxes_none, boxes_more, tree_over}
use Rattle.box_tree.proofs.bodies.point_tree.Goals as goal

pub loop-place-init : goal.loop-place-init
loop-place-init c =
    subst (AreBoxesTo (λ i b. HoldsPoint b (point c.args.points.now i)) 0) (sym c.in_ok-boxes.ensures) (boxes_none (λ i b. HoldsPoint b (point c.args.points.now i)))

pub loop-place-preserved : goal.loop-place-preserved
loop-place-preserved c =
    let ps = c.args.points.now in
    subst (AreBoxesTo (λ i b. HoldsPoint b (point ps i)) (c.loop-place.place + 1)) (sym c.in_ok-push.ensures.ok)
    (boxes_more (λ i b. HoldsPoint b (point ps i)) c.loop-place.place c.loop-place.boxes c.box_of.result c.loop-place.invariant c.box_of.ensures.place
    (subst (λ b. HoldsPoint b (point ps c.loop-place.place)) (sym c.box_of.ensures.bounds)
    (subst (HoldsPoint c.point_bounds.result) (sym (c.at.ensures origin)) c.point_bounds.ensures)))

pub returns : goal.returns
returns c =
    let ps = c.args.points.now in
    if_ok c.tree_of.result
    (λ nodes h. tree_over (λ i b. HoldsPoint b (point ps i)) (length ps) c.loop-place.boxes nodes
    (subst (λ n. AreBoxesTo (λ i b. HoldsPoint b (point ps i)) n c.loop-place.boxes) (omega arith) c.loop-place.invariant) h)
    c.tree_of.ensures
