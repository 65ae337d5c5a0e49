use Rattle.tangle_fill.specs.Fill.{as_oriented}
use Rattle.tangle_fill.proofs.Growing.{grew_self, filled_by}
use Rattle.tangle_fill.proofs.grow.fill_side.Goals as goal

pub returns-in-Some : goal.returns-in-Some
returns-in-Some c =
    let h = c.in-Some.ensures in
    (grew_self c.args.complex.now.points.now c.args.complex.now.triangles.now c.args.growth.now c.requires.growth.indexed, filled_by c.args.complex.now.points.now c.args.growth.now.rows (as_oriented c.args.f) c.in-Some.field-0 h.0 h.1)
