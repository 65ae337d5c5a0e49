use Rattle.std.proofs.Common.{◌∷◌, [], ◌∙◌, ap, arith, length, length-append, take, sym}
use Rattle.std.specs.Prelude.{map}
use Rattle.std.proofs.lemmas.List.{length-take-le}
use Rattle.geo_laws.specs.Complex.{Complex, Polygon}
use Rattle.plc_files.specs.Folding.{polygons_between}
use Rattle.plc_files.specs.Appending.{plus_polygons}
use Rattle.plc_files.proofs.Folded.{polygon_there}
use Rattle.plc_files.proofs.Appended.{polygons_more, polygons_all, facets_counted}
use Rattle.tetfit_run.proofs.Copied.{map_same}
use Rattle.tetfit_run.proofs.holes.copy_polygons.Goals as goal

pub loop-i-preserved : goal.loop-i-preserved
loop-i-preserved c =
    let ps = c.args.complex.now.polygons in
    let facet = c.args.facet.now in
    let i = c.loop-i.i in
    let old = c.loop-i.made in
    let made = c.in_ok-add_polygon.ensures.ok in
    let there = polygon_there ps i facet.past c.loop-i-test.true c.requires.there in
    let p = there.0 in
    let corners = sym (c.corners.ensures p) ∙ ap (λ (q : Polygon). q.corners) (there.1 p) in
    let line = c.polygon_line.ensures p ∙ ap (λ (q : Polygon). q.line) (there.1 p) in
    let whole = plus_polygons (map (λ p. p) (polygons_between facet.first facet.past ps)) c.args.made.now in
    let own : Polygon = record { corners = c.corners.result.now; line = c.polygon_line.result } in
    record {
      made = polygons_more (λ p. p) (take facet.past ps) i p c.corners.result.now c.polygon_line.result old c.add_polygon.new.self whole there.2 there.3 corners line made c.loop-i.invariant.made;
      count = omega (arith, ap (λ (v : Complex). length v.polygons) made ∙ length-append old.polygons (own ∷ []), c.loop-i.invariant.count);
      facets = facets_counted _ old c.add_polygon.new.self (ap (λ (v : Complex). v.facets) made) ∙ c.loop-i.invariant.facets;
    }

pub returns : goal.returns
returns c =
    let ps = c.args.complex.now.polygons in
    let facet = c.args.facet.now in
    let own = polygons_between facet.first facet.past ps in
    polygons_all (λ p. p) (take facet.past ps) c.loop-i.i c.loop-i.made (plus_polygons (map (λ p. p) own) c.args.made.now)
    (omega (arith, length-take-le facet.past ps c.requires.there, c.loop-i-test.false)) c.loop-i.invariant.made
    ∙ ap (λ qs. plus_polygons qs c.args.made.now) (map_same own)
