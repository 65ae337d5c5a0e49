use Rattle.merged_facets.proofs.Labels.{identity_more}
use Rattle.merged_facets.proofs.merging.alone.Goals as goal

pub loop-facet-preserved : goal.loop-facet-preserved
loop-facet-preserved c = identity_more c.loop-facet.down.items c.push.new.self.items c.loop-facet.facet c.loop-facet.invariant c.in_ok-push.ensures.items
