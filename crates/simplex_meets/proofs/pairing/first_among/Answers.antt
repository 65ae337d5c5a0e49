use Rattle.std.proofs.Common.{◌+◌, arith}
use Rattle.std.specs.Prelude.{None}
use Rattle.simplex_meets.proofs.Firsts.{holds_at, node_there, first_start, first_further, first_more, first_of_all}
use Rattle.simplex_meets.proofs.pairing.first_among.Goals as goal

pub next_meeting-at-requires-clause-tree : goal.next_meeting-at-requires-clause-tree
next_meeting-at-requires-clause-tree c = c.requires.tree.tree

pub next_meeting-at-requires-in-loop-at-clause-tree : goal.next_meeting-at-requires-in-loop-at-clause-tree
next_meeting-at-requires-in-loop-at-clause-tree c = c.requires.tree.tree

pub loop-at-init : goal.loop-at-init
loop-at-init c =
    let a = c.args in
    let ps = a.points.now in
    let holds = holds_at ps a.parts.now a.i c.part_bounds-bounds.result c.requires.there c.part_bounds-bounds.ensures in
    record {
      there = c.next_meeting-at.ensures.there;
      first =
          first_further a.compared ps a.parts.now a.i a.tree.now 0 c.next_meeting-at.result None c.part_bounds-bounds.result c.requires.tree holds
          (first_start a.compared ps a.parts.now a.i a.tree.now) c.next_meeting-at.ensures.apart c.next_meeting-at.ensures.there;
    }

pub settle-found-requires-clause-there : goal.settle-found-requires-clause-there
settle-found-requires-clause-there c = (c.requires.there, node_there c.args.points.now c.args.parts.now c.args.tree.now c.loop-at.at c.get.result.now c.requires.tree (omega arith) c.get.ensures)

pub loop-at-preserved : goal.loop-at-preserved
loop-at-preserved c =
    let a = c.args in
    let ps = a.points.now in
    let holds = holds_at ps a.parts.now a.i c.part_bounds-bounds.result c.requires.there c.part_bounds-bounds.ensures in
    let e = c.settle-found.ensures in
    record {
      there = c.next_meeting-at-in-loop-at.ensures.there;
      first =
          first_further a.compared ps a.parts.now a.i a.tree.now (c.loop-at.at + 1) c.next_meeting-at-in-loop-at.result c.settle-found.result c.part_bounds-bounds.result c.requires.tree holds
          (first_more a.compared ps a.parts.now a.i a.tree.now c.loop-at.at c.get.result.now c.loop-at.found c.settle-found.result c.get.ensures e.found e.no_later e.settled c.loop-at.invariant.first)
          c.next_meeting-at-in-loop-at.ensures.apart c.next_meeting-at-in-loop-at.ensures.there;
    }

pub returns : goal.returns
returns c =
    let a = c.args in
    first_of_all a.compared a.points.now a.parts.now a.i a.tree.now c.loop-at.at c.loop-at.found (omega arith) c.loop-at.invariant.first
