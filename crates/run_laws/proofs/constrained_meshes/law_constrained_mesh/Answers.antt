use Rattle.run_laws.proofs.Constrained.{constrained_mesh}
use Rattle.run_laws.proofs.constrained_meshes.law_constrained_mesh.Goals as goal

pub returns : goal.returns
returns c = constrained_mesh
