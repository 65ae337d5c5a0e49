use Rattle.run_laws.proofs.SoundMeshes.{sound_points}
use Rattle.run_laws.proofs.sound_meshes.law_sound_points.Goals as goal

pub returns : goal.returns
returns c = sound_points
