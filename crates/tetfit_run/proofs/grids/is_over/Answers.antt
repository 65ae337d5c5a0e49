use Rattle.tetfit_run.proofs.OffGrid.{over_test}
use Rattle.tetfit_run.proofs.grids.is_over.Goals as goal

pub returns : goal.returns
returns c = over_test _ _ c.size_of.result c.is_none.result c.size_of.ensures c.is_none.ensures
