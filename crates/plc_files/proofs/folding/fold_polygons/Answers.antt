use Rattle.std.proofs.Common.{ℕ, ◌<◌, ◌∷◌, [], ◌∙◌, ap, arith, length, length-append, take, sym, subst}
use Rattle.std.specs.Prelude.{map, slice_index, All}
use Rattle.std.proofs.lemmas.List.{length-take-le}
use Rattle.geo_laws.specs.Complex.{Complex, Polygon}
use Rattle.plc_files.specs.Folding.{folded_polygon, polygons_between}
use Rattle.plc_files.specs.Appending.{plus_polygons}
use Rattle.plc_files.proofs.Folded.{polygon_there}
use Rattle.plc_files.proofs.Appended.{polygons_more, polygons_all, facets_counted}
use Rattle.plc_files.proofs.folding.fold_polygons.Goals as goal

no_polygon : Polygon
no_polygon = record { corners = []; line = 0 }

pub folded_corners-requires : goal.folded_corners-requires
folded_corners-requires c =
    let below = λ (i : ℕ). i < length c.args.folded.now in
    subst (All below) (c.corners.ensures no_polygon) (c.requires.corners c.loop-i.i no_polygon (omega (arith, c.loop-i-test.true, c.requires.there)))

pub loop-i-preserved : goal.loop-i-preserved
loop-i-preserved c =
    let folded = c.args.folded.now in
    let ps = c.args.complex.now.polygons in
    let facet = c.args.facet.now in
    let i = c.loop-i.i in
    let old = c.loop-i.made in
    let made = c.in_ok-add_polygon.ensures.ok in
    let there = polygon_there ps i facet.past c.loop-i-test.true c.requires.there in
    let p = there.0 in
    let corners = c.as_slice.ensures ∙ c.in_ok-corners.ensures ∙ ap (map (slice_index folded)) (sym (c.corners.ensures p) ∙ ap (λ (q : Polygon). q.corners) (there.1 p)) in
    let line = c.polygon_line.ensures p ∙ ap (λ (q : Polygon). q.line) (there.1 p) in
    let whole = plus_polygons (map (folded_polygon folded) (polygons_between facet.first facet.past ps)) c.args.made.now in
    let own : Polygon = record { corners = c.as_slice.result.now; line = c.polygon_line.result } in
    record {
      made = polygons_more (folded_polygon folded) (take facet.past ps) i p c.as_slice.result.now c.polygon_line.result old c.add_polygon.new.self whole there.2 there.3 corners line made c.loop-i.invariant.made;
      count = omega (arith, ap (λ (v : Complex). length v.polygons) made ∙ length-append old.polygons (own ∷ []), c.loop-i.invariant.count);
      facets = facets_counted _ old c.add_polygon.new.self (ap (λ (v : Complex). v.facets) made) ∙ c.loop-i.invariant.facets;
    }

pub returns : goal.returns
returns c =
    let folded = c.args.folded.now in
    let ps = c.args.complex.now.polygons in
    let facet = c.args.facet.now in
    polygons_all (folded_polygon folded) (take facet.past ps) c.loop-i.i c.loop-i.made (plus_polygons (map (folded_polygon folded) (polygons_between facet.first facet.past ps)) c.args.made.now)
    (omega (arith, length-take-le facet.past ps c.requires.there, c.loop-i-test.false)) c.loop-i.invariant.made
