use Rattle.std.proofs.Common.{refl}
use Rattle.tetfit_run.specs.Units.{nearest_multiple}
use Rattle.tetfit_run.proofs.units.nearest_multiple.Goals as goal

pub returns : goal.returns
unfolding nearest_multiple
returns c = rw c.from-step.ensures refl
