use Rattle.tetwhere_run.proofs.HeldCorners.{held_corner}
use Rattle.tetwhere_run.proofs.nearest_laws.law_held_corner.Goals as goal

pub returns : goal.returns
returns c = held_corner
