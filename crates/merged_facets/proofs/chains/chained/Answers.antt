use Rattle.std.proofs.Common.{◌-◌, arith}
use Rattle.merged_facets.specs.Merging.{group_of}
use Rattle.merged_facets.proofs.Walk.{chain_step}
use Rattle.merged_facets.proofs.chains.chained.Goals as goal

pub loop-i-preserved : goal.loop-i-preserved
loop-i-preserved c =
    chain_step (group_of c.args.merging.now) c.args.count c.loop-i.i c.group_of-group.result c.loop-i.first.items c.loop-i.next.items c.index.result.now (omega (arith, c.loop-i-test.true)) c.group_of-group.ensures
    (c.requires (c.args.count - 1 - c.loop-i.i) (omega (arith, c.loop-i-test.true))) c.index.ensures c.loop-i.invariant
