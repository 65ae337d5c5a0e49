use Rattle.std.proofs.Common.{sym, ◌∙◌, arith}
use Rattle.facet_plane.specs.Axes.{axis_is}
use Rattle.facet_plane.specs.Walk.{side_passes, is_under}
use Rattle.facet_plane.proofs.Walks.{any_whole, any_here, any_last}
use Rattle.facet_plane.proofs.polygon.is_over_polygon.Goals as goal

pub returns-then-is_over_side : goal.returns-then-is_over_side
returns-then-is_over_side c =
    let t = is_under c.args.points.now (axis_is c.args.axis) c.args.x in
    sym (any_here (side_passes t) _ c.loop-i.a c.args.corners.now c.loop-i.i 0 (omega arith) (sym c.is_over_side.ensures ∙ c.if-is_over_side.true))
    ∙ c.loop-i.invariant.same ∙ any_whole t c.args.corners.now c.requires.some

pub returns : goal.returns
returns c =
    let t = is_under c.args.points.now (axis_is c.args.axis) c.args.x in
    c.is_over_side-2.ensures ∙ sym (any_last (side_passes t) _ c.loop-i.a c.args.corners.now c.loop-i.i (omega arith))
    ∙ c.loop-i.invariant.same ∙ any_whole t c.args.corners.now c.requires.some
