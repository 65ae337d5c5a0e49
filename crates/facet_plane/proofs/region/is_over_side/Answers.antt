use Rattle.std.proofs.Common.{sym, ◌∙◌, arith}
use Rattle.facet_plane.specs.Axes.{axis_is}
use Rattle.facet_plane.specs.Areas.{over_polygon}
use Rattle.facet_plane.proofs.Polygons.{corners_there, any_hit, any_miss, any_end}
use Rattle.facet_plane.proofs.region.is_over_side.Goals as goal

pub is_over-requires : goal.is_over-requires
is_over-requires c = corners_there c.args.points.now c.args.complex.now c.loop-q.q c.corners.result.now c.requires.corners (omega arith) c.corners.ensures

pub loop-q-preserved : goal.loop-q-preserved
loop-q-preserved c =
    sym (any_miss (over_polygon c.args.points.now (axis_is c.args.axis) c.args.x) c.args.complex.now.polygons c.loop-q.q c.args.facet.now.past
    c.corners.result.now (omega arith) c.requires.range c.corners.ensures (sym c.is_over.ensures ∙ c.if-is_over.false))
    ∙ c.loop-q.invariant

pub returns-then-is_over : goal.returns-then-is_over
returns-then-is_over c =
    sym (any_hit (over_polygon c.args.points.now (axis_is c.args.axis) c.args.x) c.args.complex.now.polygons c.loop-q.q c.args.facet.now.past
    c.corners.result.now (omega arith) c.requires.range c.corners.ensures (sym c.is_over.ensures ∙ c.if-is_over.true))
    ∙ c.loop-q.invariant

pub returns : goal.returns
returns c =
    sym (any_end (over_polygon c.args.points.now (axis_is c.args.axis) c.args.x) c.args.complex.now.polygons c.loop-q.q c.args.facet.now.past (omega arith))
    ∙ c.loop-q.invariant
