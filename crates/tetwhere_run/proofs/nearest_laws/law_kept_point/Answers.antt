use Rattle.tetwhere_run.proofs.HeldCorners.{kept_point}
use Rattle.tetwhere_run.proofs.nearest_laws.law_kept_point.Goals as goal

pub returns : goal.returns
returns c = kept_point
