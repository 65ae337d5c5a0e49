use Rattle.incidence.specs.declared.half_faces.Corner.TheVariants.{A, B, C, D}
use Rattle.incidence.proofs.Opposite.{opposite_same}
use Rattle.incidence.proofs.pairs.are_at_point.Goals as goal

pub returns : goal.returns
returns c =
    let t = c.args.row in
    let k = c.args.corner in
    let a = opposite_same t A k in
    let b = opposite_same t B k in
    let d = opposite_same t C k in
    let e = opposite_same t D k in
    cc (a, b, d, e, c.point_at-point.ensures)
