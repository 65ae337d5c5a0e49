use Rattle.std.proofs.Common.{arith}
use Rattle.box_tree.proofs.Trees.{holds_first, holds_next}
use Rattle.box_tree.proofs.tree.wide_bounds.Goals as goal

pub loop-i-init : goal.loop-i-init
loop-i-init c = holds_first c.args.boxes.now c.args.from c.at.result (omega arith) c.at.ensures

pub loop-i-preserved : goal.loop-i-preserved
loop-i-preserved c = holds_next c.args.boxes.now c.args.from c.loop-i.i c.at-in-loop-i.result c.loop-i.wide c.joined-wide.result c.at-in-loop-i.ensures c.loop-i.invariant c.joined-wide.ensures.first c.joined-wide.ensures.second
