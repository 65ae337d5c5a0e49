use Rattle.merged_facets.proofs.Walk.{none_more}
use Rattle.merged_facets.proofs.chains.nothing.Goals as goal

pub loop-i-preserved : goal.loop-i-preserved
loop-i-preserved c = none_more c.loop-i._i c.loop-i.list.items c.push.new.self.items c.loop-i.invariant c.in_ok-push.ensures.items
