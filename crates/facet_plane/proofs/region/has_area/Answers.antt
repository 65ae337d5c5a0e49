use Rattle.std.proofs.Common.{sym, ◌∙◌, nat_lt, length, arith, lt-ltb, le-ltb}
use Rattle.facet_plane.proofs.Polygons.{any_hit, any_miss, any_end}
use Rattle.facet_plane.proofs.region.has_area.Goals as goal

pub loop-q-preserved : goal.loop-q-preserved
loop-q-preserved c =
    sym (any_miss (λ p. nat_lt 2 (length p)) c.args.complex.now.polygons c.loop-q.q c.args.facet.now.past c.corners.result.now
    (omega arith) c.requires.range c.corners.ensures (le-ltb 2 (length c.corners.result.now) c.if-corners-gt2.false))
    ∙ c.loop-q.invariant

pub returns-then-corners-gt2 : goal.returns-then-corners-gt2
returns-then-corners-gt2 c =
    sym (any_hit (λ p. nat_lt 2 (length p)) c.args.complex.now.polygons c.loop-q.q c.args.facet.now.past c.corners.result.now
    (omega arith) c.requires.range c.corners.ensures (lt-ltb 2 (length c.corners.result.now) c.if-corners-gt2.true))
    ∙ c.loop-q.invariant

pub returns : goal.returns
returns c =
    sym (any_end (λ p. nat_lt 2 (length p)) c.args.complex.now.polygons c.loop-q.q c.args.facet.now.past (omega arith))
    ∙ c.loop-q.invariant
