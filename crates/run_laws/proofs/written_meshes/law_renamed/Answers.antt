use Rattle.run_laws.proofs.Renamed.{renamed_mesh}
use Rattle.run_laws.proofs.written_meshes.law_renamed.Goals as goal

pub returns : goal.returns
returns c = renamed_mesh
