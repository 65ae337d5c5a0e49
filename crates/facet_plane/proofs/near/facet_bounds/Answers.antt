use Rattle.std.proofs.Common.{arith}
use Rattle.facet_plane.proofs.Polygons.{corners_there}
use Rattle.facet_plane.proofs.NearPoints.{polygon_more, polygons_done}
use Rattle.facet_plane.proofs.near.facet_bounds.Goals as goal

pub with_corners-bounds-requires : goal.with_corners-bounds-requires
with_corners-bounds-requires c =
    corners_there c.args.points.now c.args.complex.now c.loop-q.q c.corners.result.now c.requires.corners (omega arith) c.corners.ensures

pub loop-q-preserved : goal.loop-q-preserved
loop-q-preserved c =
    polygon_more c.args.points.now c.args.complex.now.polygons c.args.facet.now.first c.args.facet.now.past c.loop-q.q c.corners.result.now
    c.loop-q.bounds c.with_corners-bounds.result (omega arith) c.requires.range c.corners.ensures
    c.with_corners-bounds.ensures.wider c.with_corners-bounds.ensures.holds c.loop-q.invariant

pub returns : goal.returns
returns c =
    polygons_done c.args.points.now c.args.complex.now.polygons c.args.facet.now.first c.args.facet.now.past c.loop-q.q c.loop-q.bounds
    (omega arith) c.loop-q.invariant
