use Rattle.std.proofs.Common.{sym, ◌∙◌, arith}
use Rattle.node_files.specs.LeastGrid.{twos_of}
use Rattle.node_files.proofs.Greatest.{greatest_more, greatest_all}
use Rattle.node_files.proofs.least.most_twos.Goals as goal

pub loop-p-preserved : goal.loop-p-preserved
loop-p-preserved c =
    rw (c.max-most.ensures, c.twos_of.ensures) (greatest_more twos_of c.args.points.now c.loop-p.p-index c.p-item.result c.loop-p.most c.loop-p-test.true c.p-item.is ∙ c.loop-p.invariant)

pub returns : goal.returns
returns c = sym (greatest_all twos_of c.args.points.now c.loop-p.p-index c.loop-p.most (omega arith)) ∙ c.loop-p.invariant
