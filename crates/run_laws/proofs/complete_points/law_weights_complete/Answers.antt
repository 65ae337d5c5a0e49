use Rattle.run_laws.proofs.Complete.{weights_complete}
use Rattle.run_laws.proofs.complete_points.law_weights_complete.Goals as goal

pub returns : goal.returns
returns c = weights_complete
