use Rattle.std.proofs.Common.{subst, sym}
use Rattle.sign_predicates.specs.Point.{origin}
use Rattle.geo_laws.specs.Delaunay.{point}
use Rattle.box_tree.specs.Bounds.{HoldsPoint}
use Rattle.box_tree.proofs.Boxes.{held_larger}
use Rattle.box_tree.proofs.bounds.bounds_of_two.Goals as goal

pub returns-clause-a : goal.returns-clause-a
returns-clause-a c =
    held_larger c.point_bounds.result c.joined.result (point c.args.points.now c.args.a) c.joined.ensures.first (subst (HoldsPoint c.point_bounds.result) (sym (c.at.ensures origin)) c.point_bounds.ensures)

pub returns-clause-b : goal.returns-clause-b
returns-clause-b c =
    held_larger c.point_bounds-2.result c.joined.result (point c.args.points.now c.args.b) c.joined.ensures.second (subst (HoldsPoint c.point_bounds-2.result) (sym (c.at-2.ensures origin)) c.point_bounds-2.ensures)
