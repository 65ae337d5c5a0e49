use Rattle.std.proofs.Common.{refl}
use Rattle.merged_facets.specs.Beside.{Lies}
use Rattle.merged_facets.proofs.BesideOf.{each_more}
use Rattle.merged_facets.proofs.beside.all_lie.Goals as goal

pub loop-k-preserved : goal.loop-k-preserved
loop-k-preserved c = each_more (Lies c.args.lie c.args.points.now c.args.s c.args.i) c.args.corners.now c.loop-k.k c.loop-k-test.true c.loop-k.invariant (c.if-not-lies.ensures.0 refl)
