use Rattle.run_laws.proofs.Complete.{points_complete}
use Rattle.run_laws.proofs.complete_points.law_points_complete.Goals as goal

pub returns : goal.returns
returns c = points_complete
