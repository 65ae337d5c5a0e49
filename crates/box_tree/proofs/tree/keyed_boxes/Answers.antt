use Rattle.std.proofs.Common.{◌+◌, subst, sym, arith}
use Rattle.box_tree.specs.Tree.{AreKeyed}
use Rattle.box_tree.proofs.Trees.{keyed_more, keyed_none}
use Rattle.box_tree.proofs.tree.keyed_boxes.Goals as goal

pub loop-i-init : goal.loop-i-init
loop-i-init c = subst (AreKeyed c.args.boxes.now 0) (sym c.in_ok-keyed.ensures) (keyed_none c.args.boxes.now)

pub loop-i-preserved : goal.loop-i-preserved
loop-i-preserved c =
    let boxes = c.args.boxes.now in
    subst (AreKeyed boxes (c.loop-i.i + 1)) (sym c.in_ok-push.ensures.ok)
    (keyed_more boxes c.loop-i.i c.loop-i.keyed (record { key = c.on_curve-key.result; own = c.at-own.result }) c.loop-i.invariant c.at-own.ensures)

pub returns : goal.returns
returns c = subst (λ n. AreKeyed c.args.boxes.now n c.loop-i.keyed) (omega arith) c.loop-i.invariant
