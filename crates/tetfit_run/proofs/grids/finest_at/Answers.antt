use Rattle.std.proofs.Common.{sym, ap, ◌∙◌, arith}
use Rattle.grid_coords.specs.Choice.{decimals_of}
use Rattle.tetfit_run.proofs.OffGrid.{finest_more, finest_all}
use Rattle.tetfit_run.proofs.grids.finest_at.Goals as goal

pub loop-p-preserved : goal.loop-p-preserved
loop-p-preserved c =
    finest_more c.args.origin c.args.decimals c.args.points.now c.loop-p.p-index c.p-item.result c.loop-p.most c.decimals_of.result c.max-most.result c.loop-p-test.true c.p-item.is
    (c.decimals_of.ensures ∙ ap decimals_of c.point_at.ensures) c.max-most.ensures
    ∙ c.loop-p.invariant

pub returns : goal.returns
returns c = sym (finest_all c.args.origin c.args.decimals c.args.points.now c.loop-p.p-index c.loop-p.most (omega arith)) ∙ c.loop-p.invariant
