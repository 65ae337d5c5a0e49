use Rattle.std.proofs.Common.{subst, sym}
use Rattle.sign_predicates.specs.Point.{origin}
use Rattle.geo_laws.specs.Delaunay.{point}
use Rattle.box_tree.specs.Bounds.{HoldsPoint}
use Rattle.box_tree.proofs.Boxes.{held_larger}
use Rattle.tetfit_run.proofs.sides.side_bounds.Goals as goal

pub returns : goal.returns
returns c =
    let ps = c.args.points.now in
    let s = c.args.side in (
      held_larger c.point_bounds.result c.joined.result (point ps s.a) c.joined.ensures.first (subst (HoldsPoint c.point_bounds.result) (sym (c.at.ensures origin)) c.point_bounds.ensures),
      held_larger c.point_bounds-2.result c.joined.result (point ps s.b) c.joined.ensures.second (subst (HoldsPoint c.point_bounds-2.result) (sym (c.at-2.ensures origin)) c.point_bounds-2.ensures),
    )
