use Rattle.std.proofs.Common.{◌+◌, subst, sym, arith}
use Rattle.std.specs.Prelude.{None}
use Rattle.simplex_meets.specs.Proper.{IsTriangle, triangle_face}
use Rattle.box_tree.proofs.Lists.{all_at}
use Rattle.facet_recover.proofs.Near.{IsLeastBefore, least_start, least_further, near_taken, near_left, least_of_all}
use Rattle.box_tree.proofs.Trees.{place_there}
use Rattle.facet_recover.proofs.crossing.entering_near.Goals as goal
use Rattle.facet_recover.proofs.crossing.entering_near.Goals.{then-is_better, else-is_better}

pub loop-i-init : goal.loop-i-init
loop-i-init c = record {
  there = c.next_meeting-i.ensures.there;
  least =
      least_further c.args.points.now c.args.triangles.now c.args.tet c.args.after None c.args.tree.now c.args.bounds.now 0 c.next_meeting-i.result c.requires.positive c.requires.tree c.requires.bounds
      (least_start c.args.points.now c.args.triangles.now c.args.tet c.args.after c.args.tree.now) c.next_meeting-i.ensures.apart c.next_meeting-i.ensures.there;
}

pub next_meeting-i-requires-clause-tree : goal.next_meeting-i-requires-clause-tree
next_meeting-i-requires-clause-tree c = c.requires.tree.tree

pub at-t-requires : goal.at-t-requires
at-t-requires c = place_there c.args.tree.now c.loop-i.i c.get.result.now c.requires.tree (omega arith) c.get.ensures

pub next_meeting-i-requires-in-loop-i-clause-tree : goal.next_meeting-i-requires-in-loop-i-clause-tree
next_meeting-i-requires-in-loop-i-clause-tree c = c.requires.tree.tree

pub loop-i-preserved : goal.loop-i-preserved
loop-i-preserved c =
    let ps = c.args.points.now in
    let ts = c.args.triangles.now in
    let t = c.args.tet in
    let tree = c.args.tree.now in
    let place = place_there tree c.loop-i.i c.get.result.now c.requires.tree (omega arith) c.get.ensures in
    record {
      there = c.next_meeting-i-in-loop-i.ensures.there;
      least =
          least_further ps ts t c.args.after c.if-is_better.found tree c.args.bounds.now (c.loop-i.i + 1) c.next_meeting-i-in-loop-i.result c.requires.positive c.requires.tree c.requires.bounds
          (elim c.if-is_better.branch [
            | then-is_better w ↦
                subst (IsLeastBefore ps ts t c.args.after tree (c.loop-i.i + 1)) (sym w.found-is)
                (near_taken ps ts t c.args.after c.loop-i.found tree c.loop-i.i c.get.result.now c.at-t.result c.get.ensures place c.at-t.ensures c.loop-i.invariant.least (c.is_better.ensures.0 w.if-is_better.true))
            | else-is_better w ↦
                subst (IsLeastBefore ps ts t c.args.after tree (c.loop-i.i + 1)) (sym w.found-is)
                (near_left ps ts t c.args.after c.loop-i.found tree c.loop-i.i c.get.result.now c.at-t.result c.get.ensures c.at-t.ensures c.loop-i.invariant.least
                (λ b. (let e = c.is_better.ensures.1 b in let f = w.if-is_better.false in cc)))
          ])
          c.next_meeting-i-in-loop-i.ensures.apart c.next_meeting-i-in-loop-i.ensures.there;
    }

pub is_better-requires-clause-spans : goal.is_better-requires-clause-spans
is_better-requires-clause-spans c =
    all_at (λ t. IsTriangle c.args.points.now (triangle_face t)) c.args.triangles.now c.get.result.now.own.place c.at-t.result c.requires.spans (place_there c.args.tree.now c.loop-i.i c.get.result.now c.requires.tree (omega arith) c.get.ensures) c.at-t.ensures

pub returns : goal.returns
returns c = least_of_all c.args.points.now c.args.triangles.now c.args.tet c.args.after c.loop-i.found c.args.tree.now c.loop-i.i c.requires.tree (omega arith) c.loop-i.invariant.least
