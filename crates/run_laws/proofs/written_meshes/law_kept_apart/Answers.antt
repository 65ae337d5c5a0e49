use Rattle.run_laws.proofs.Kept.{kept_apart}
use Rattle.run_laws.proofs.written_meshes.law_kept_apart.Goals as goal

pub returns : goal.returns
returns c = kept_apart
