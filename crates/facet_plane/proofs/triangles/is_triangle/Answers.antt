use Rattle.facet_plane.proofs.ThreeCorners.{one_polygon}
use Rattle.facet_plane.proofs.triangles.is_triangle.Goals as goal

pub returns : goal.returns
returns c = λ t.
    one_polygon c.args.complex.now.polygons c.args.facet.now c.corners.result.now c.args.span c.if-facet-ne1.false c.requires.order c.requires.range c.corners.ensures (c.are_three.ensures t) (c.is_empty.ensures.0 c.if-not-is_empty.false)
