use Rattle.std.proofs.Common.{◌<◌, subst, arith}
use Rattle.std.specs.Prelude.{All}
use Rattle.std.proofs.lemmas.List.{take_all}
use Rattle.std.proofs.lemmas.List.Elements.{All-more}
use Rattle.mesh_tests.proofs.tests.regions.are_below.Goals as goal

pub loop-i-preserved : goal.loop-i-preserved
loop-i-preserved c = All-more (λ i. i < c.args.n) c.args.corners.now c.loop-i.i 0 (omega arith) c.loop-i.invariant (omega arith)

pub returns : goal.returns
returns c t = subst (All (λ i. i < c.args.n)) (take_all c.loop-i.i c.args.corners.now (omega arith)) c.loop-i.invariant
