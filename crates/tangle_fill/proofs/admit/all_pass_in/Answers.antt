use Rattle.std.proofs.Common.{◌+◌, refl, arith}
use Rattle.tangle_fill.proofs.Spheres.{passed_further, passed_more, all_passed, place_of}
use Rattle.tangle_laws.proofs.Apart.{fails_true}
use Rattle.tangle_fill.proofs.Joined.{not_true}
use Rattle.tangle_fill.proofs.Trees.{point_tree_had}
use Rattle.tangle_fill.proofs.admit.all_pass_in.Goals as goal

pub loop-k-init : goal.loop-k-init
loop-k-init c = record {
  there = c.next_meeting-k.ensures.there;
  passed =
      passed_further c.args.complex.now.points.now c.args.complex.now.triangles.now c.args.row c.args.complex.now.point_tree c.args.bounds.now 0 c.next_meeting-k.result c.args.complex.now.over_points c.requires.bounds (λ j d l. absurd (omega arith)) c.next_meeting-k.ensures.apart c.next_meeting-k.ensures.there;
}

pub overflow_cast-i : goal.overflow_cast-i
overflow_cast-i c = omega (arith, c.args.complex.now.few, place_of c.args.complex.now.points.now c.args.complex.now.point_tree c.loop-k.k c.get.result.now c.args.complex.now.over_points (omega arith) c.get.ensures)

pub passes_near-requires-clause-is_there : goal.passes_near-requires-clause-is_there
passes_near-requires-clause-is_there c = place_of c.args.complex.now.points.now c.args.complex.now.point_tree c.loop-k.k c.get.result.now c.args.complex.now.over_points (omega arith) c.get.ensures

pub returns-then-not-passes_near : goal.returns-then-not-passes_near
returns-then-not-passes_near c = (
  λ h. not_true h,
  λ all. absurd (fails_true c.passes_near.result c.if-not-passes_near.true
      (c.passes_near.ensures.1 (all c.get.result.now.own.place (place_of c.args.complex.now.points.now c.args.complex.now.point_tree c.loop-k.k c.get.result.now c.args.complex.now.over_points (omega arith) c.get.ensures)))),
)

pub loop-k-preserved : goal.loop-k-preserved
loop-k-preserved c =
    let ps = c.args.complex.now.points.now in
    let ts = c.args.complex.now.triangles.now in
    let nodes = c.args.complex.now.point_tree in
    let more = passed_more ps ts c.args.row nodes c.loop-k.k c.get.result.now c.get.ensures c.loop-k.invariant.passed (c.passes_near.ensures.0 c.if-not-passes_near.false) in
    record {
      there = c.next_meeting-k-in-loop-k.ensures.there;
      passed = passed_further ps ts c.args.row nodes c.args.bounds.now (c.loop-k.k + 1) c.next_meeting-k-in-loop-k.result c.args.complex.now.over_points c.requires.bounds more c.next_meeting-k-in-loop-k.ensures.apart c.next_meeting-k-in-loop-k.ensures.there;
    }

pub returns : goal.returns
returns c = (λ h. all_passed c.args.complex.now.points.now c.args.complex.now.triangles.now c.args.row c.args.complex.now.point_tree c.loop-k.k c.args.complex.now.over_points (omega arith) c.loop-k.invariant.passed, λ all. refl)

pub next_meeting-k-requires-clause-tree : goal.next_meeting-k-requires-clause-tree
next_meeting-k-requires-clause-tree c = (point_tree_had _ _ c.args.complex.now.over_points).tree

pub next_meeting-k-requires-in-loop-k-clause-tree : goal.next_meeting-k-requires-in-loop-k-clause-tree
next_meeting-k-requires-in-loop-k-clause-tree c = (point_tree_had _ _ c.args.complex.now.over_points).tree
