use Rattle.std.proofs.Common.{arith}
use Rattle.tetfit_run.proofs.Copied.{copied_all}
use Rattle.tetfit_run.proofs.holes.copied_facets.Goals as goal

pub returns : goal.returns
returns c = copied_all c.args.complex.now c.loop-i.i c.loop-i.made (omega (arith, c.loop-i-test.false, c.facet_count-i-end.ensures.count)) c.loop-i.invariant
