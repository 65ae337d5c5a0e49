use Rattle.std.proofs.Common.{arith}
use Rattle.tetfit_run.specs.Grids.{point_at}
use Rattle.tetfit_run.proofs.Alike.{alike_more, alike_past}
use Rattle.tetfit_run.proofs.grids.are_alike.Goals as goal

pub loop-p-preserved : goal.loop-p-preserved
loop-p-preserved c = λ behind.
    c.loop-p.invariant
    (alike_more (point_at c.args.origin c.args.fewer) (point_at c.args.origin c.args.decimals) c.args.points.now c.loop-p.p-index c.p-item.result c.loop-p-test.true c.p-item.is
    (c.is_alike.ensures c.if-not-is_alike.false) behind)

pub returns : goal.returns
returns c = λ t.
    c.loop-p.invariant (alike_past (point_at c.args.origin c.args.fewer) (point_at c.args.origin c.args.decimals) c.args.points.now c.loop-p.p-index (omega arith))
