use Rattle.std.proofs.Common.{◌+◌, arith}
use Rattle.sign_predicates.specs.Meeting.{TriangleEnters}
use Rattle.geo_laws.specs.Delaunay.{corners}
use Rattle.geo_laws.specs.OrientedFace.{triangle}
use Rattle.geo_laws.specs.declared.complex.FacetTriangle.{FacetTriangle}
use Rattle.geo_laws.proofs.Members.{contains_of, member_of}
use Rattle.box_tree.proofs.Trees.{place_there}
use Rattle.tangle_laws.specs.Tangle.{facet_face}
use Rattle.tangle_laws.proofs.Apart.{fails_true}
use Rattle.tangle_fill.proofs.Entered.{none_enters, enters_none}
use Rattle.tangle_fill.proofs.Boxed.{not_entering, spans_of}
use Rattle.tangle_fill.proofs.Near.{none_done, done_further, done_more, all_done}
use Rattle.tangle_fill.proofs.crossed.crossing_near.Goals as goal

pub next_meeting-i-requires-clause-tree : goal.next_meeting-i-requires-clause-tree
next_meeting-i-requires-clause-tree c = c.requires.tree.tree

pub loop-i-init : goal.loop-i-init
loop-i-init c =
    let ps = c.args.points.now in
    let ts = c.args.triangles.now in
    let t = c.args.row in
    let nodes = c.args.tree.now in
    let P : FacetTriangle → Type 0 = λ k. ¬ TriangleEnters (corners ps t) (triangle ps (facet_face k)) in
    record {
      there = c.next_meeting-i.ensures.there;
      done =
          done_further P ps ts nodes c.tet_bounds-bounds.result 0 c.next_meeting-i.result c.requires.tree
          (λ u b m h a. not_entering ps t u b c.tet_bounds-bounds.result (spans_of ps ts c.requires.facets u m) c.requires.positive h c.tet_bounds-bounds.ensures a)
          (none_done P ts nodes) c.next_meeting-i.ensures.apart c.next_meeting-i.ensures.there;
    }

pub at-requires : goal.at-requires
at-requires c = place_there c.args.tree.now c.loop-i.i c.get.result.now c.requires.tree (omega arith) c.get.ensures

pub next_meeting-i-requires-in-loop-i-clause-tree : goal.next_meeting-i-requires-in-loop-i-clause-tree
next_meeting-i-requires-in-loop-i-clause-tree c = c.requires.tree.tree

pub enters-requires-clause-of_facet : goal.enters-requires-clause-of_facet
enters-requires-clause-of_facet c = (c.get.result.now.own.place, place_there c.args.tree.now c.loop-i.i c.get.result.now c.requires.tree (omega arith) c.get.ensures, c.at.ensures c.at.result)

pub loop-i-preserved : goal.loop-i-preserved
loop-i-preserved c =
    let ps = c.args.points.now in
    let ts = c.args.triangles.now in
    let t = c.args.row in
    let nodes = c.args.tree.now in
    let P : FacetTriangle → Type 0 = λ k. ¬ TriangleEnters (corners ps t) (triangle ps (facet_face k)) in
    record {
      there = c.next_meeting-i-in-loop-i.ensures.there;
      done =
          done_further P ps ts nodes c.tet_bounds-bounds.result (c.loop-i.i + 1) c.next_meeting-i-in-loop-i.result c.requires.tree
          (λ u b m h a. not_entering ps t u b c.tet_bounds-bounds.result (spans_of ps ts c.requires.facets u m) c.requires.positive h c.tet_bounds-bounds.ensures a)
          (done_more P ts nodes c.loop-i.i c.get.result.now c.at.result c.get.ensures c.at.ensures c.loop-i.invariant.done (λ e. fails_true c.enters.result c.if-enters.false (c.enters.ensures.1 e)))
          c.next_meeting-i-in-loop-i.ensures.apart c.next_meeting-i-in-loop-i.ensures.there;
    }

pub returns-then-enters : goal.returns-then-enters
returns-then-enters c =
    let ps = c.args.points.now in
    let ts = c.args.triangles.now in
    let m = member_of ts c.at.result (c.get.result.now.own.place, place_there c.args.tree.now c.loop-i.i c.get.result.now c.requires.tree (omega arith) c.get.ensures, c.at.ensures c.at.result) in
    λ free. enters_none ps ts c.args.row c.at.result m (spans_of ps ts c.requires.facets c.at.result (contains_of ts c.at.result m)) free (c.enters.ensures.0 c.if-enters.true)

pub returns : goal.returns
returns c =
    let ps = c.args.points.now in
    let ts = c.args.triangles.now in
    let t = c.args.row in
    let nodes = c.args.tree.now in
    let P : FacetTriangle → Type 0 = λ k. ¬ TriangleEnters (corners ps t) (triangle ps (facet_face k)) in
    none_enters ps ts t (λ k m. all_done P ps ts nodes c.loop-i.i c.requires.tree (omega arith) c.loop-i.invariant.done k (contains_of ts k m))
