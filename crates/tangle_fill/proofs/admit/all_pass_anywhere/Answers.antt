use Rattle.std.proofs.Common.{below_more}
use Rattle.tangle_fill.specs.Fill.{Passes}
use Rattle.tangle_fill.proofs.admit.all_pass_anywhere.Goals as goal

pub loop-i-preserved : goal.loop-i-preserved
loop-i-preserved c = below_more (Passes c.args.complex.now.points.now c.args.complex.now.triangles.now c.args.row) c.loop-i.i c.loop-i.invariant (c.passes_near.ensures.0 c.if-not-passes_near.false)
