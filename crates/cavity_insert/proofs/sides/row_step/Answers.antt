use Rattle.std.proofs.Common.{◌≡◌, sym, ◌∙◌, ap}
use Rattle.geo_laws.specs.Delaunay.{point}
use Rattle.cavity_insert.proofs.Cones.{row_answers}
use Rattle.cavity_insert.proofs.sides.row_step.Goals.{then-is_there, else-is_there}
use Rattle.cavity_insert.proofs.sides.row_step.Goals as goal

pub returns-then-is_there-2 : goal.returns-then-is_there-2
returns-then-is_there-2 c =
    row_answers c.args.points.now c.args.row c.args.a c.args.b c.point_at-p.result c.row_points.result c.has_corner.result (sym c.has_corner-is_there.ensures ∙ c.if-is_there-2.true)
    (c.point_at-p.ensures ∙ ap (point c.args.points.now) goal_is) c.row_points.ensures c.in_default.ensures c.has_corner.ensures
  where
    goal_is : c.if-is_there.goal ≡ c.args.b
    goal_is = elim c.if-is_there.branch [ then-is_there w ↦ w.goal-is | else-is_there w ↦ absurd (cc (w.if-is_there.false, c.if-is_there-2.true)) ]
