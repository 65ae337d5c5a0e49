use Rattle.run_laws.proofs.OneMesh.{one_mesh}
use Rattle.run_laws.proofs.constrained_meshes.law_one_mesh.Goals as goal

pub returns : goal.returns
returns c = one_mesh
