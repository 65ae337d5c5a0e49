use Rattle.std.proofs.Common.{◌+◌, sym, subst, arith}
use Rattle.box_tree.proofs.Trees.{place_there}
use Rattle.hole_carve.proofs.Treed.{AreSeenBefore, seen_start, seen_further, seen_more, seen_all}
use Rattle.hole_carve.proofs.seeds.holders_in.Goals as goal

pub next_meeting-i-requires-clause-tree : goal.next_meeting-i-requires-clause-tree
next_meeting-i-requires-clause-tree c = c.requires.tree.tree

pub loop-i-init : goal.loop-i-init
loop-i-init c = record {
  there = c.next_meeting-i.ensures.there;
  seen =
      seen_further c.args.points.now c.args.list.now c.args.x c.args.tree.now c.box_round-bounds.result 0 c.next_meeting-i.result c.new-holders.result.items c.box_round-bounds.ensures.weight c.requires.positive c.requires.tree c.box_round-bounds.ensures.holds
      (subst (AreSeenBefore c.args.points.now c.args.list.now c.args.x c.args.tree.now 0) (sym c.new-holders.ensures.items) (seen_start c.args.points.now c.args.list.now c.args.x c.args.tree.now)) c.next_meeting-i.ensures.apart c.next_meeting-i.ensures.there;
}

pub add_holder-requires-clause-there : goal.add_holder-requires-clause-there
add_holder-requires-clause-there c = place_there c.args.tree.now c.loop-i.i c.get.result.now c.requires.tree (omega arith) c.get.ensures

pub next_meeting-i-requires-in-loop-i-clause-tree : goal.next_meeting-i-requires-in-loop-i-clause-tree
next_meeting-i-requires-in-loop-i-clause-tree c = c.requires.tree.tree

pub loop-i-preserved : goal.loop-i-preserved
loop-i-preserved c = record {
  there = c.next_meeting-i-in-loop-i.ensures.there;
  seen =
      seen_further c.args.points.now c.args.list.now c.args.x c.args.tree.now c.box_round-bounds.result (c.loop-i.i + 1) c.next_meeting-i-in-loop-i.result c.add_holder.new.holders.items c.box_round-bounds.ensures.weight c.requires.positive c.requires.tree c.box_round-bounds.ensures.holds
      (seen_more c.args.points.now c.args.list.now c.args.x c.args.tree.now c.loop-i.i c.get.result.now c.loop-i.holders.items c.add_holder.new.holders.items c.get.ensures c.loop-i.invariant.seen c.in_ok-add_holder.ensures)
      c.next_meeting-i-in-loop-i.ensures.apart c.next_meeting-i-in-loop-i.ensures.there;
}

pub returns : goal.returns
returns c = seen_all c.args.points.now c.args.list.now c.args.x c.args.tree.now c.loop-i.i c.loop-i.holders.items c.requires.tree (omega arith) c.loop-i.invariant.seen
