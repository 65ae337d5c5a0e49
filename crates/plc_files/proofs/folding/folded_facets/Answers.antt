use Rattle.std.proofs.Common.{arith}
use Rattle.plc_files.proofs.Folded.{to_all}
use Rattle.plc_files.proofs.folding.folded_facets.Goals as goal

pub returns : goal.returns
returns c = to_all c.args.folded.now c.args.complex.now c.loop-i.i c.loop-i.made (omega (arith, c.loop-i-test.false, c.facet_count-i-end.ensures.count)) c.loop-i.invariant
