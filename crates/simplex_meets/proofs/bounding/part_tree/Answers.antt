use Rattle.std.proofs.Common.{◌+◌, subst, sym, arith, length, get_or}
use Rattle.box_tree.specs.Bounds.{HoldsCorners}
use Rattle.box_tree.proofs.Lists.{if_ok}
use Rattle.box_tree.proofs.Trees.{AreBoxesTo, boxes_none, boxes_more, tree_over}
use Rattle.simplex_meets.specs.Parts.{part_numbers}
use Rattle.simplex_meets.specs.Boxes.{HoldsPart}
use Rattle.simplex_meets.proofs.Firsts.{no_part, holds_at}
use Rattle.simplex_meets.proofs.bounding.part_tree.Goals as goal

pub loop-place-init : goal.loop-place-init
loop-place-init c = let holds = HoldsPart c.args.points.now c.args.parts.now in subst (AreBoxesTo holds 0) (sym c.in_ok-boxes.ensures) (boxes_none holds)

pub loop-place-preserved : goal.loop-place-preserved
loop-place-preserved c =
    let ps = c.args.points.now in
    let holds = HoldsPart ps c.args.parts.now in
    subst (AreBoxesTo holds (c.loop-place.place + 1)) (sym c.in_ok-push.ensures.ok)
    (boxes_more holds c.loop-place.place c.loop-place.boxes c.box_of.result c.loop-place.invariant c.box_of.ensures.place
    (holds_at ps c.args.parts.now c.loop-place.place c.box_of.result.bounds (omega arith) (subst (HoldsCorners ps (part_numbers (get_or c.args.parts.now c.loop-place.place no_part))) (sym c.box_of.ensures.bounds) c.part_bounds.ensures)))

pub returns : goal.returns
returns c =
    let holds = HoldsPart c.args.points.now c.args.parts.now in
    if_ok c.tree_of.result
    (λ nodes h. tree_over holds (length c.args.parts.now) c.loop-place.boxes nodes (subst (λ n. AreBoxesTo holds n c.loop-place.boxes) (omega arith) c.loop-place.invariant) h)
    c.tree_of.ensures
