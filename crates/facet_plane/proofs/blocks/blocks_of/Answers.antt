use Rattle.std.proofs.Common.{◌+◌, length, subst, sym, arith}
use Rattle.facet_plane.specs.Blocks.{HoldsBox, AreBlocksTo}
use Rattle.facet_plane.proofs.Runs.{blocks_more, blocks_none}
use Rattle.facet_plane.proofs.blocks.blocks_of.Goals as goal

pub loop-i-init : goal.loop-i-init
loop-i-init c = subst (AreBlocksTo (HoldsBox c.args.boxes.now) (length c.args.boxes.now) 0) (sym c.in_ok-blocks.ensures) (blocks_none (HoldsBox c.args.boxes.now) (length c.args.boxes.now))

pub loop-i-preserved : goal.loop-i-preserved
loop-i-preserved c =
    let boxes = c.args.boxes.now in
    subst (AreBlocksTo (HoldsBox boxes) (length boxes) (c.loop-i.i + 1)) (sym c.in_ok-push.ensures.ok)
    (blocks_more (HoldsBox boxes) (length boxes) c.loop-i.i c.loop-i.blocks (record { extent = c.extent_between.result; past = c.past_of-past.result }) c.loop-i.invariant
    (record { onward = c.past_of-past.ensures.after; there = omega (arith, c.past_of-past.ensures.there); round = c.extent_between.ensures }))

pub returns : goal.returns
returns c = subst (λ n. AreBlocksTo (HoldsBox c.args.boxes.now) (length c.args.boxes.now) n c.loop-i.blocks) (omega arith) c.loop-i.invariant
