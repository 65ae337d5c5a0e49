use Rattle.std.proofs.Common.{◌≡◌, ℕ, subst, arith}
use Rattle.merged_facets.specs.Segments.{is_outer}
use Rattle.merged_facets.proofs.Outer.{AreOuterTo, outer_first, outer_more}
use Rattle.merged_facets.proofs.segments.put_facet.Goals as goal

pub loop-q-init : goal.loop-q-init
loop-q-init c = outer_first (is_outer c.args.merging.now c.args.number) c.args.complex.now.polygons c.args.facet.now.first c.args.set.now

pub loop-q-preserved : goal.loop-q-preserved
loop-q-preserved c =
    outer_more (is_outer c.args.merging.now c.args.number) c.args.complex.now.polygons c.args.facet.now.first c.loop-q.q c.corners.result.now c.args.set.now c.loop-q.set c.put_outer_sides.new.set
    (omega (arith, c.loop-q.auto.q)) (omega (arith, c.loop-q-test.true, c.requires.range)) c.corners.ensures c.loop-q.invariant c.in_ok-put_outer_sides.ensures

pub returns : goal.returns
returns c =
    let e : c.loop-q.q ≡ c.args.facet.now.past = omega (arith, c.loop-q-test.false, c.loop-q.auto.q-end, c.requires.order) in
    subst (λ (n : ℕ). AreOuterTo (is_outer c.args.merging.now c.args.number) c.args.complex.now.polygons c.args.facet.now.first n c.args.set.now c.loop-q.set) e c.loop-q.invariant
