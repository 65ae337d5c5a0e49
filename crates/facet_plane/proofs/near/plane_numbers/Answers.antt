use Rattle.std.proofs.Common.{◌≡◌, ◌+◌, ◌<◌, Bool, true, false, [], length, ap, subst, sym, ◌∙◌, arith}
use Rattle.sign_predicates.specs.Point.{origin}
use Rattle.sign_predicates.specs.Orientation.{Triangle, orient, side}
use Rattle.geo_laws.specs.Delaunay.{point}
use Rattle.facet_laws.specs.Region.{through}
use Rattle.facet_laws.proofs.OnPiece.{zero_test, test_zero}
use Rattle.box_tree.proofs.Trees.{place_there}
use Rattle.facet_plane.specs.NearPoints.{ArePlaneNumbersIn}
use Rattle.facet_plane.proofs.NearPoints.{AreFoundBefore, found_none, found_further, found_taken, found_left, found_all}
use Rattle.facet_plane.proofs.near.plane_numbers.Goals as goal
use Rattle.facet_plane.proofs.near.plane_numbers.Goals.{then-is_in_plane+in_ok-push, else-is_in_plane}

clash : (b : Bool) → b ≡ true → b ≡ false → ⊥
clash b e d = cc

pub loop-i-init : goal.loop-i-init
loop-i-init c =
    let ps = c.args.points.now in
    let f : Triangle = record { a = c.at-a.result; b = c.at-b.result; c = c.at-c.result } in
    let tree = c.args.tree.now in
    let b = c.args.bounds.now in
    let next = c.next_meeting-i in
    subst (AreFoundBefore ps f tree b next.result) (sym c.new-numbers.ensures)
    (found_further ps f tree b 0 next.result [] c.requires.tree (found_none ps f tree b) next.ensures.apart next.ensures.there)

pub at-requires : goal.at-requires
at-requires c = place_there c.args.tree.now c.loop-i.i c.get.result.now c.requires.tree (omega arith) c.get.ensures

pub overflow_cast-place : goal.overflow_cast-place
overflow_cast-place c =
    let p : c.get.result.now.own.place < length c.args.points.now =
    place_there c.args.tree.now c.loop-i.i c.get.result.now c.requires.tree (omega arith) c.get.ensures in
    omega (arith, c.requires.few)

pub loop-i-preserved : goal.loop-i-preserved
loop-i-preserved c =
    let ps = c.args.points.now in
    let f : Triangle = record { a = c.at-a.result; b = c.at-b.result; c = c.at-c.result } in
    let tree = c.args.tree.now in
    let b = c.args.bounds.now in
    let i = c.loop-i.i in
    let n = c.get.result.now in
    let next = c.next_meeting-i-in-loop-i in
    let at : side f (point ps n.own.place) ≡ orient c.at-a.result c.at-b.result c.at-c.result c.at.result =
    ap (side f) (c.at.ensures origin) in
    found_further ps f tree b (i + 1) next.result c.if-is_in_plane.numbers c.requires.tree
    (elim c.if-is_in_plane.branch [
      | then-is_in_plane+in_ok-push w ↦
          subst (AreFoundBefore ps f tree b (i + 1)) (sym (w.numbers-is ∙ w.in_ok-push.ensures.ok))
          (found_taken ps f tree b i c.loop-i.numbers n (omega arith) c.get.ensures
          (place_there tree i n c.requires.tree (omega arith) c.get.ensures)
          (at ∙ zero_test _ (sym c.is_in_plane.ensures ∙ w.if-is_in_plane.true)) c.loop-i.invariant)
      | else-is_in_plane w ↦
          subst (AreFoundBefore ps f tree b (i + 1)) (sym w.numbers-is)
          (found_left ps f tree b i c.loop-i.numbers n (omega arith) c.get.ensures
          (λ e. clash c.is_in_plane.result (c.is_in_plane.ensures ∙ test_zero _ (sym at ∙ e)) w.if-is_in_plane.false) c.loop-i.invariant)
    ])
    next.ensures.apart next.ensures.there

pub returns : goal.returns
returns c =
    let ps = c.args.points.now in
    let f : Triangle = record { a = c.at-a.result; b = c.at-b.result; c = c.at-c.result } in
    let is : f ≡ through ps c.args.span =
    λ j. record { a = sym (c.at-a.ensures origin) j; b = sym (c.at-b.ensures origin) j; c = sym (c.at-c.ensures origin) j } in
    subst (λ g. ArePlaneNumbersIn ps g c.args.bounds.now c.keep_distinct.new.self) is
    (found_all ps f c.args.tree.now c.args.bounds.now c.loop-i.i c.loop-i.numbers c.keep_distinct.new.self c.requires.tree (omega arith)
    c.loop-i.invariant c.keep_distinct.ensures.exactly c.keep_distinct.ensures.ascending)
