use Rattle.tangle_fill.proofs.Joined.{outside_of}
use Rattle.tangle_fill.proofs.accept.is_even_pair.Goals as goal

pub returns-then-are_outside : goal.returns-then-are_outside
returns-then-are_outside c h open_face =
    let o = c.are_outside.ensures.0 c.if-are_outside.true in
    (outside_of c.args.points.now c.args.s c.args.t o.0.all, outside_of c.args.points.now c.args.t c.args.s o.1.all)
