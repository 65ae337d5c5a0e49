use Rattle.std.proofs.Common.{◌+◌, subst, sym, arith}
use Rattle.box_tree.proofs.Lists.{if_ok}
use Rattle.facet_plane.specs.Outline.{IsBlocked}
use Rattle.facet_plane.specs.Prepared.{AreExtentsTo}
use Rattle.facet_plane.proofs.Rows.{all_here, extents_none, extents_more, outlines_in_blocks}
use Rattle.facet_plane.proofs.prepared.blocks_round.Goals as goal

pub loop-q-init : goal.loop-q-init
loop-q-init c = subst (AreExtentsTo c.args.outlines.now 0) (sym c.in_ok-boxes.ensures) (extents_none c.args.outlines.now)

pub loop-q-preserved : goal.loop-q-preserved
loop-q-preserved c =
    subst (AreExtentsTo c.args.outlines.now (c.loop-q.q + 1)) (sym c.in_ok-push.ensures.ok)
    (extents_more c.args.outlines.now c.loop-q.q c.loop-q.boxes c.get.result.now c.loop-q.invariant c.get.ensures
    (all_here IsBlocked c.args.outlines.now c.loop-q.q c.get.result.now c.requires (omega arith) c.get.ensures))

pub returns : goal.returns
returns c =
    if_ok c.blocks_of.result (λ blocks. outlines_in_blocks c.args.outlines.now c.loop-q.boxes blocks (subst (λ n. AreExtentsTo c.args.outlines.now n c.loop-q.boxes) (omega arith) c.loop-q.invariant)) c.blocks_of.ensures
