use Rattle.std.proofs.Common.{◌+◌, subst, sym, arith}
use Rattle.facet_plane.specs.Outline.{AreBoxesTo}
use Rattle.facet_plane.proofs.Around.{boxes_none, boxes_more}
use Rattle.facet_plane.proofs.outline.boxes_of.Goals as goal

pub loop-i-init : goal.loop-i-init
loop-i-init c = subst (AreBoxesTo c.args.sides.now 0) (sym c.in_ok-boxes.ensures) (boxes_none c.args.sides.now)

pub loop-i-preserved : goal.loop-i-preserved
loop-i-preserved c =
    subst (AreBoxesTo c.args.sides.now (c.loop-i.i + 1)) (sym c.in_ok-push.ensures.ok)
    (boxes_more c.args.sides.now c.loop-i.i c.loop-i.boxes c.extent_of.result c.at-side.result c.loop-i.invariant c.at-side.ensures c.extent_of.ensures.first c.extent_of.ensures.second)

pub returns : goal.returns
returns c = subst (λ n. AreBoxesTo c.args.sides.now n c.loop-i.boxes) (omega arith) c.loop-i.invariant
