use Rattle.std.proofs.Common.{arith}
use Rattle.tetfit_run.proofs.Ratios.{small_unit}
use Rattle.tetfit_run.proofs.goal.unit_of.Goals as goal

pub pow-requires : goal.pow-requires
pow-requires c = omega (arith, small_unit c.args.scale c.requires)

pub returns-clause-small : goal.returns-clause-small
returns-clause-small c = rw c.pow.ensures (small_unit c.args.scale c.requires)
