use Rattle.tetwhere_run.proofs.MovedCorners.{moved_corner}
use Rattle.tetwhere_run.proofs.nearest_laws.law_moved_point.Goals as goal

pub returns : goal.returns
returns c = moved_corner
