use Rattle.incidence.proofs.Opposite.{opposite_a, opposite_b, opposite_c, opposite_d}
use Rattle.incidence.proofs.half_faces.are_opposite.Goals as goal

pub returns : goal.returns
returns c =
    let f = c.args.face in
    let t = c.args.row in
    let a = opposite_a f t c.requires in
    let b = opposite_b f t c.requires in
    let d = opposite_c f t c.requires in
    let e = opposite_d f t c.requires in
    cc (a, b, d, e, c.from.ensures, c.from-2.ensures, c.from-3.ensures, c.from-4.ensures, c.from-5.ensures, c.from-6.ensures, c.from-7.ensures)
