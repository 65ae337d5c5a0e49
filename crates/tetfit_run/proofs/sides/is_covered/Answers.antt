use Rattle.std.proofs.Common.{◌+◌, arith}
use Rattle.box_tree.proofs.Trees.{place_there}
use Rattle.tetfit_run.proofs.SideBoxes.{missed_start, missed_further, missed_more, missed_all}
use Rattle.tetfit_run.proofs.sides.is_covered.Goals as goal

pub next_meeting-i-requires-clause-tree : goal.next_meeting-i-requires-clause-tree
next_meeting-i-requires-clause-tree c = c.requires.tree.tree

pub loop-i-init : goal.loop-i-init
loop-i-init c =
    let a = c.args in
    record {
      there = c.next_meeting-i.ensures.there;
      missed = missed_further a.points.now a.sides.now a.s a.tree.now c.side_bounds-bounds.result 0 c.next_meeting-i.result c.requires.tree c.side_bounds-bounds.ensures (missed_start a.points.now a.sides.now a.s a.tree.now)
          c.next_meeting-i.ensures.apart c.next_meeting-i.ensures.there;
    }

pub next_meeting-i-requires-in-loop-i-clause-tree : goal.next_meeting-i-requires-in-loop-i-clause-tree
next_meeting-i-requires-in-loop-i-clause-tree c = c.requires.tree.tree

pub loop-i-preserved : goal.loop-i-preserved
loop-i-preserved c =
    let a = c.args in
    let place = place_there a.tree.now c.loop-i.i c.get.result.now c.requires.tree (omega arith) c.get.ensures in
    record {
      there = c.next_meeting-i-in-loop-i.ensures.there;
      missed = missed_further a.points.now a.sides.now a.s a.tree.now c.side_bounds-bounds.result (c.loop-i.i + 1) c.next_meeting-i-in-loop-i.result c.requires.tree c.side_bounds-bounds.ensures
          (missed_more a.points.now a.sides.now a.s a.tree.now c.loop-i.i c.get.result.now c.get.ensures (c.is_covered_at.ensures.no c.if-is_covered_at.false place) c.loop-i.invariant.missed)
          c.next_meeting-i-in-loop-i.ensures.apart c.next_meeting-i-in-loop-i.ensures.there;
    }

pub returns : goal.returns
returns c = missed_all c.args.points.now c.args.sides.now c.args.s c.args.tree.now c.loop-i.i c.requires.tree (omega arith) c.loop-i.invariant.missed
