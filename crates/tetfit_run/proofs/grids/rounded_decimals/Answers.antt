use Rattle.std.proofs.Common.{ap, ◌∙◌}
use Rattle.grid_coords.specs.Choice.{decimals_of}
use Rattle.tetfit_run.proofs.OffGrid.{one_most, either_most}
use Rattle.tetfit_run.proofs.grids.rounded_decimals.Goals as goal

pub returns-then-most-decimals : goal.returns-then-most-decimals
returns-then-most-decimals c =
    either_most c.decimals_of.result c.loop-p.most _ c.max-most.result (c.decimals_of.ensures ∙ ap decimals_of c.point_at.ensures)
    (one_most c.args.origin c.args.decimals c.args.points.now c.loop-p.p-index c.p-item.result c.loop-p-test.true c.p-item.is) c.loop-p.invariant c.max-most.ensures

pub loop-p-preserved : goal.loop-p-preserved
loop-p-preserved c =
    either_most c.decimals_of.result c.loop-p.most _ c.max-most.result (c.decimals_of.ensures ∙ ap decimals_of c.point_at.ensures)
    (one_most c.args.origin c.args.decimals c.args.points.now c.loop-p.p-index c.p-item.result c.loop-p-test.true c.p-item.is) c.loop-p.invariant c.max-most.ensures
