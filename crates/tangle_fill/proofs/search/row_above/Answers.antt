use Rattle.tangle_laws.proofs.Steps.{over_on}
use Rattle.tangle_fill.specs.Fill.{as_oriented}
use Rattle.tangle_fill.proofs.search.row_above.Goals as goal

pub returns-then-is_above : goal.returns-then-is_above
returns-then-is_above c =
    let above = c.is_above.ensures.0 c.if-is_above.true in
    let over = c.row_over.ensures c.args.points.now above in
    (over_on c.args.points.now (as_oriented c.args.f) c.args.j above c.row_over.result over c.requires.is_there c.requires.face.a_is_there c.requires.face.b_is_there c.requires.face.c_is_there, over)
