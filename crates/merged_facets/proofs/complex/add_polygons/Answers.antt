use Rattle.std.proofs.Common.{◌≡◌, ℕ, subst, arith}
use Rattle.merged_facets.specs.MergedComplex.{HasParts, with_polygons}
use Rattle.merged_facets.proofs.Parts.{polygons_none, polygons_more}
use Rattle.merged_facets.proofs.complex.add_polygons.Goals as goal

pub loop-q-init : goal.loop-q-init
loop-q-init c = polygons_none c.args.complex.now.polygons c.args.facet.now.first c.args.made.now c.requires.making

pub loop-q-preserved : goal.loop-q-preserved
loop-q-preserved c =
    polygons_more c.args.complex.now.polygons c.args.facet.now.first c.loop-q.q c.args.made.now c.loop-q.made c.add_polygon.new.self c.corners.result.now c.polygon_line.result
    (omega (arith, c.loop-q.auto.q)) (omega (arith, c.loop-q-test.true, c.requires.range)) c.corners.ensures c.polygon_line.ensures c.requires.last c.loop-q.invariant c.in_ok-add_polygon.ensures.ok

pub returns : goal.returns
returns c =
    let e : c.loop-q.q ≡ c.args.facet.now.past = omega (arith, c.loop-q-test.false, c.loop-q.auto.q-end, c.requires.order) in
    subst (λ (n : ℕ). HasParts c.args.complex.now.polygons c.args.made.now (with_polygons c.args.complex.now.polygons c.args.facet.now.first n) c.loop-q.made) e c.loop-q.invariant
