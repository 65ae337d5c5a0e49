use Rattle.point_locate.proofs.Shapes.{inside_by_faces, row_leads_out}
use Rattle.point_locate.proofs.look.look_at.Goals as goal

pub returns-in-None : goal.returns-in-None
returns-in-None c = inside_by_faces c.args.points.now c.args.p c.args.t c.in-Row.row c.row_points.result c.in-Row.ensures c.row_points.ensures c.in-None.ensures

pub returns-in-Some : goal.returns-in-Some
returns-in-Some c =
    let out = c.in-Some.ensures in
    let none = row_leads_out c.args.points.now c.args.p c.args.t c.in-Row.row c.row_points.result c.in-Some.face c.in-Row.ensures c.row_points.ensures out.0 out.1 in
    (out.0, none.0, none.1)
