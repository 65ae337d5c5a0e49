use Rattle.std.proofs.Common.{arith}
use Rattle.box_tree.proofs.Trees.{apart_wide, apart_own, onward_at}
use Rattle.box_tree.proofs.tree.next_meeting.Goals as goal

pub loop-i-smaller-then-are_bounds_apart : goal.loop-i-smaller-then-are_bounds_apart
loop-i-smaller-then-are_bounds_apart c =
    let q = onward_at c.args.tree.now c.loop-i.i c.get-node.result.now c.requires.tree (omega arith) c.get-node.ensures in
    let a = q.0 in
    let b = q.1 in
    omega arith

pub loop-i-preserved-then-are_bounds_apart : goal.loop-i-preserved-then-are_bounds_apart
loop-i-preserved-then-are_bounds_apart c =
    let q = onward_at c.args.tree.now c.loop-i.i c.get-node.result.now c.requires.tree (omega arith) c.get-node.ensures in
    let a = q.0 in
    record {
      from = omega arith;
      there = q.1;
      apart =
          apart_wide c.args.tree.now c.args.bounds.now c.args.from c.loop-i.i c.get-node.result.now c.requires.tree (omega arith) c.get-node.ensures c.loop-i.invariant.apart
          (c.are_bounds_apart.ensures c.if-are_bounds_apart.true);
    }

pub loop-i-preserved : goal.loop-i-preserved
loop-i-preserved c = record {
  from = omega arith;
  there = omega arith;
  apart =
      apart_own c.args.tree.now c.args.bounds.now c.args.from c.loop-i.i c.get-node.result.now c.get-node.ensures c.loop-i.invariant.apart
      (c.are_bounds_apart-else-are_bounds_apart.ensures c.if-are_bounds_apart-2.true);
}
