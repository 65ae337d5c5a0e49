use Rattle.std.proofs.Common.{arith}
use Rattle.tet_shapes.proofs.Numbers.{short_left, short_edge, short_right}
use Rattle.tet_shapes.proofs.shape.exceeds_short.Goals as goal

pub overflow_mul-result-3 : goal.overflow_mul-result-3
overflow_mul-result-3 c =
    let h = short_left c.args.bound.over c.args.volume c.requires.over c.requires.volume in record { fits = omega (arith, h) }

pub overflow_mul-result-4 : goal.overflow_mul-result-4
overflow_mul-result-4 c =
    let h = short_edge c.args.bound.over c.args.volume c.args.shortest c.requires.over c.requires.volume c.requires.shortest in
    record { fits = omega (arith, h) }

pub overflow_mul-result-8 : goal.overflow_mul-result-8
overflow_mul-result-8 c =
    let n = c.args.n in
    let r = c.requires in
    let h = short_right c.args.bound.under n.x n.y n.z r.under r.center.x r.center.y r.center.z in record { fits = omega (arith, h) }
