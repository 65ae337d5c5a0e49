use Rattle.std.proofs.Common.{◌+◌, arith}
use Rattle.simplex_meets.proofs.Firsts.{holds_at, boxes_of, node_there}
use Rattle.simplex_meets.proofs.Leasts.{beside_start, beside_further, beside_more, beside_all}
use Rattle.simplex_meets.proofs.pairing.least_beside.Goals as goal

pub next_meeting-at-requires-clause-tree : goal.next_meeting-at-requires-clause-tree
next_meeting-at-requires-clause-tree c = c.requires.tree.tree

pub next_meeting-at-requires-in-loop-at-clause-tree : goal.next_meeting-at-requires-in-loop-at-clause-tree
next_meeting-at-requires-in-loop-at-clause-tree c = c.requires.tree.tree

pub loop-at-init : goal.loop-at-init
loop-at-init c =
    let a = c.args in
    let ps = a.points.now in
    let parts = a.marked.parts.now in
    let holds = holds_at ps parts a.i c.part_bounds-bounds.result c.requires.there c.part_bounds-bounds.ensures in
    let next = c.next_meeting-at.ensures in
    record {
      there = next.there;
      beside =
          beside_further a.marked.compared ps parts a.marked.marks.now a.i a.tree.now 0 c.next_meeting-at.result a.before a.before c.part_bounds-bounds.result c.requires.tree holds
          (beside_start a.marked.compared ps parts a.marked.marks.now a.i a.tree.now a.before c.requires.before) next.apart next.there;
    }

pub settle_beside-found-requires-clause-there : goal.settle_beside-found-requires-clause-there
settle_beside-found-requires-clause-there c =
    let ps = c.args.points.now in
    let parts = c.args.marked.parts.now in
    (c.requires.there, node_there ps parts c.args.tree.now c.loop-at.at c.get.result.now (boxes_of ps parts c.args.tree.now c.requires.tree) (omega arith) c.get.ensures)

pub settle_beside-found-requires-clause-found : goal.settle_beside-found-requires-clause-found
settle_beside-found-requires-clause-found c = c.loop-at.invariant.beside.is_found

pub loop-at-preserved : goal.loop-at-preserved
loop-at-preserved c =
    let a = c.args in
    let ps = a.points.now in
    let parts = a.marked.parts.now in
    let holds = holds_at ps parts a.i c.part_bounds-bounds.result c.requires.there c.part_bounds-bounds.ensures in
    let next = c.next_meeting-at-in-loop-at.ensures in
    let e = c.settle_beside-found.ensures in
    let found = c.settle_beside-found.result in
    record {
      there = next.there;
      beside =
          beside_further a.marked.compared ps parts a.marked.marks.now a.i a.tree.now (c.loop-at.at + 1) c.next_meeting-at-in-loop-at.result a.before found c.part_bounds-bounds.result c.requires.tree holds
          (beside_more a.marked.compared ps parts a.marked.marks.now a.i a.tree.now c.loop-at.at c.get.result.now a.before c.loop-at.found found c.get.ensures e.found e.no_later e.settled c.loop-at.invariant.beside)
          next.apart next.there;
    }

pub returns-clause-found : goal.returns-clause-found
returns-clause-found c = c.loop-at.invariant.beside.is_found

pub returns-clause-no_later : goal.returns-clause-no_later
returns-clause-no_later c = c.loop-at.invariant.beside.no_later

pub returns-clause-settled : goal.returns-clause-settled
returns-clause-settled c =
    let a = c.args in
    beside_all a.marked.compared a.points.now a.marked.parts.now a.marked.marks.now a.i a.tree.now c.loop-at.at a.before c.loop-at.found c.requires.tree (omega arith) c.loop-at.invariant.beside
