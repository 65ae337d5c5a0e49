use Rattle.std.proofs.Common.{◌≡◌, ◌+◌, false, sym, subst, ◌∙◌, arith}
use Rattle.sign_predicates.specs.Point.{as_rational, origin}
use Rattle.sign_predicates.specs.Centroid.{centroid}
use Rattle.geo_laws.specs.Delaunay.{point, corners, numbers}
use Rattle.geo_laws.specs.OrientedFace.{triangle}
use Rattle.geo_laws.specs.declared.complex.FacetTriangle.{FacetTriangle}
use Rattle.geo_laws.proofs.Members.{contains_of, member_of, some_true, any_true}
use Rattle.box_tree.specs.Bounds.{HoldsCorners, HoldsPoint}
use Rattle.box_tree.proofs.Boxes.{held_larger}
use Rattle.box_tree.proofs.Trees.{place_there}
use Rattle.tangle_laws.specs.Tangle.{facet_face}
use Rattle.tangle_laws.specs.Hidden.{hides}
use Rattle.tangle_laws.proofs.Apart.{fails_true}
use Rattle.tangle_fill.proofs.Boxed.{not_hiding, spans_of}
use Rattle.tangle_fill.proofs.Near.{none_done, done_further, done_more, all_done}
use Rattle.tangle_fill.proofs.Trees.{triangle_tree_had}
use Rattle.tangle_fill.proofs.admit.shade_near.Goals as goal

pub next_meeting-k-requires-clause-tree : goal.next_meeting-k-requires-clause-tree
next_meeting-k-requires-clause-tree c = (triangle_tree_had _ _ _ c.args.complex.now.over_triangles).tree

pub loop-k-init : goal.loop-k-init
loop-k-init c =
    let ps = c.args.complex.now.points.now in
    let ts = c.args.complex.now.triangles.now in
    let t = c.args.row in
    let i = c.args.i in
    let nodes = c.args.complex.now.triangle_tree in
    let bounds = c.joined-bounds.result in
    let corner : HoldsCorners ps (numbers t) bounds = λ j m. held_larger c.tet_bounds.result bounds (point ps j) c.joined-bounds.ensures.first (c.tet_bounds.ensures j m) in
    let at : HoldsPoint bounds (point ps i) = subst (HoldsPoint bounds) (sym (c.at.ensures origin)) (held_larger c.point_bounds-at.result bounds c.at.result c.joined-bounds.ensures.second c.point_bounds-at.ensures) in
    let P : FacetTriangle → Type 0 = λ k. hides (triangle ps (facet_face k)) (centroid (corners ps t)) (as_rational (point ps i)) ≡ false in
    record {
      there = c.next_meeting-k.ensures.there;
      done =
          done_further P ps ts nodes bounds 0 c.next_meeting-k.result (triangle_tree_had _ _ _ c.args.complex.now.over_triangles)
          (λ u b m h a. not_hiding ps ts t i u b bounds (member_of ts u m) (spans_of ps ts c.args.complex.now.facets u m) c.requires.free.positive c.requires.free.free h corner at a)
          (none_done P ts nodes) c.next_meeting-k.ensures.apart c.next_meeting-k.ensures.there;
    }

pub at-requires-in-loop-k : goal.at-requires-in-loop-k
at-requires-in-loop-k c = place_there c.args.complex.now.triangle_tree c.loop-k.k c.get.result.now (triangle_tree_had _ _ _ c.args.complex.now.over_triangles) (omega arith) c.get.ensures

pub next_meeting-k-requires-in-loop-k-clause-tree : goal.next_meeting-k-requires-in-loop-k-clause-tree
next_meeting-k-requires-in-loop-k-clause-tree c = (triangle_tree_had _ _ _ c.args.complex.now.over_triangles).tree

pub is_behind-requires-clause-of_facet : goal.is_behind-requires-clause-of_facet
is_behind-requires-clause-of_facet c = (c.get.result.now.own.place, place_there c.args.complex.now.triangle_tree c.loop-k.k c.get.result.now (triangle_tree_had _ _ _ c.args.complex.now.over_triangles) (omega arith) c.get.ensures, c.at-in-loop-k.ensures c.at-in-loop-k.result)

pub loop-k-preserved : goal.loop-k-preserved
loop-k-preserved c =
    let ps = c.args.complex.now.points.now in
    let ts = c.args.complex.now.triangles.now in
    let t = c.args.row in
    let i = c.args.i in
    let nodes = c.args.complex.now.triangle_tree in
    let bounds = c.joined-bounds.result in
    let corner : HoldsCorners ps (numbers t) bounds = λ j m. held_larger c.tet_bounds.result bounds (point ps j) c.joined-bounds.ensures.first (c.tet_bounds.ensures j m) in
    let at : HoldsPoint bounds (point ps i) = subst (HoldsPoint bounds) (sym (c.at.ensures origin)) (held_larger c.point_bounds-at.result bounds c.at.result c.joined-bounds.ensures.second c.point_bounds-at.ensures) in
    let P : FacetTriangle → Type 0 = λ k. hides (triangle ps (facet_face k)) (centroid (corners ps t)) (as_rational (point ps i)) ≡ false in
    record {
      there = c.next_meeting-k-in-loop-k.ensures.there;
      done =
          done_further P ps ts nodes bounds (c.loop-k.k + 1) c.next_meeting-k-in-loop-k.result (triangle_tree_had _ _ _ c.args.complex.now.over_triangles)
          (λ u b m h a. not_hiding ps ts t i u b bounds (member_of ts u m) (spans_of ps ts c.args.complex.now.facets u m) c.requires.free.positive c.requires.free.free h corner at a)
          (done_more P ts nodes c.loop-k.k c.get.result.now c.at-in-loop-k.result c.get.ensures c.at-in-loop-k.ensures c.loop-k.invariant.done (sym c.is_behind.ensures ∙ c.if-is_behind.false))
          c.next_meeting-k-in-loop-k.ensures.apart c.next_meeting-k-in-loop-k.ensures.there;
    }

pub returns-then-is_behind : goal.returns-then-is_behind
returns-then-is_behind c =
    let ts = c.args.complex.now.triangles.now in
    let m = member_of ts c.at-in-loop-k.result (c.get.result.now.own.place, place_there c.args.complex.now.triangle_tree c.loop-k.k c.get.result.now (triangle_tree_had _ _ _ c.args.complex.now.over_triangles) (omega arith) c.get.ensures, c.at-in-loop-k.ensures c.at-in-loop-k.result) in
    record {
      by_sign =
          any_true (λ k. hides (triangle c.args.complex.now.points.now (facet_face k)) (centroid (corners c.args.complex.now.points.now c.args.row)) (as_rational (point c.args.complex.now.points.now c.args.i))) ts c.at-in-loop-k.result m
          (sym c.is_behind.ensures ∙ c.if-is_behind.true);
    }

pub returns : goal.returns
returns c s =
    let ps = c.args.complex.now.points.now in
    let ts = c.args.complex.now.triangles.now in
    let test = λ (k : FacetTriangle). hides (triangle ps (facet_face k)) (centroid (corners ps c.args.row)) (as_rational (point ps c.args.i)) in
    let P : FacetTriangle → Type 0 = λ k. hides (triangle ps (facet_face k)) (centroid (corners ps c.args.row)) (as_rational (point ps c.args.i)) ≡ false in
    let k = some_true test ts s.by_sign in
    fails_true _ (all_done P ps ts c.args.complex.now.triangle_tree c.loop-k.k (triangle_tree_had _ _ _ c.args.complex.now.over_triangles) (omega arith) c.loop-k.invariant.done k.0 (contains_of ts k.0 k.1)) k.2
