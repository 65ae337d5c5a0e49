use Rattle.mesh_check.proofs.Differences.{moved_exact}
use Rattle.mesh_check.proofs.laws.law_moved.Goals as goal

pub returns : goal.returns
returns c = moved_exact
