use Rattle.tangle_laws.specs.Tangle.{facet_face}
use Rattle.tangle_laws.proofs.Sides.{face_of_side, face_of_back}
use Rattle.tangle_fill.proofs.accept.has_triangle.Goals as goal

pub returns-in-Some : goal.returns-in-Some
returns-in-Some c h =
    let m = c.in-Some.ensures in
    (m.0.0, c.in-Some.field-0, m.0.1, m.0.2, face_of_side (facet_face c.args.k) c.in-Some.field-0 m.1)

pub returns-in-Some-row_on : goal.returns-in-Some-row_on
returns-in-Some-row_on c h =
    let m = c.in-Some-row_on.ensures in
    (m.0.0, c.in-Some-row_on.field-0, m.0.1, m.0.2, face_of_back (facet_face c.args.k) c.in-Some-row_on.field-0 m.1)
