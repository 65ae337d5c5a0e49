use Rattle.std.proofs.Common.{◌+◌, subst, sym, ap, arith}
use Rattle.box_tree.specs.declared.tree.Keyed.{Keyed}
use Rattle.box_tree.specs.Tree.{AreNodes}
use Rattle.box_tree.proofs.Trees.{nodes_more, nodes_none}
use Rattle.box_tree.proofs.tree.nodes_of.Goals as goal

pub loop-i-init : goal.loop-i-init
loop-i-init c = subst (AreNodes c.args.boxes.now 0) (sym c.in_ok-nodes.ensures) (nodes_none c.args.boxes.now)

pub loop-i-preserved : goal.loop-i-preserved
loop-i-preserved c =
    let boxes = c.args.boxes.now in
    subst (AreNodes boxes (c.loop-i.i + 1)) (sym c.in_ok-push.ensures.ok)
    (nodes_more boxes c.loop-i.i c.loop-i.nodes (record { own = c.at.result.own; wide = c.wide_bounds.result; past = c.past_of-past.result }) c.loop-i.invariant
    (record { own = λ d. ap (λ (k : Keyed). k.own) (c.at.ensures d); onward = c.past_of-past.ensures.after; there = omega (arith, c.past_of-past.ensures.there); holds = c.wide_bounds.ensures }))

pub returns : goal.returns
returns c = subst (λ n. AreNodes c.args.boxes.now n c.loop-i.nodes) (omega arith) c.loop-i.invariant
