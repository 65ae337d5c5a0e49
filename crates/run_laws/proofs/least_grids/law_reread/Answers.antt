use Rattle.run_laws.proofs.RereadMeshes.{reread}
use Rattle.run_laws.proofs.least_grids.law_reread.Goals as goal

pub returns : goal.returns
returns c = reread
