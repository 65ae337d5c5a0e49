use Rattle.std.proofs.Common.{get_or, eqb-true}
use Rattle.facet_plane.proofs.ThreeCorners.{three_of}
use Rattle.facet_plane.proofs.triangles.are_three.Goals as goal

pub returns : goal.returns
returns c = λ t.
    three_of c.args.corners.now c.args.span.0 c.args.span.1 c.args.span.2 c.if-corners-ne3.false c.if-corners-span.false c.if-corners-span-2.false
    (eqb-true (get_or c.args.corners.now 2 0) c.args.span.2 t)
