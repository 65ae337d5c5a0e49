use Rattle.facet_plane.proofs.Runs.{run_first, run_next}
use Rattle.facet_plane.proofs.blocks.extent_between.Goals as goal

pub loop-i-init : goal.loop-i-init
loop-i-init c = run_first c.args.boxes.now c.args.first c.at-extent.result c.at-extent.ensures

pub loop-i-preserved : goal.loop-i-preserved
loop-i-preserved c = run_next c.args.boxes.now c.args.first c.loop-i.i c.at.result c.loop-i.extent c.joined-extent.result c.at.ensures c.loop-i.invariant c.joined-extent.ensures.first c.joined-extent.ensures.second
