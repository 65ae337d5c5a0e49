use Rattle.run_laws.proofs.SoundMeshes.{sound_complex}
use Rattle.run_laws.proofs.sound_meshes.law_sound_complex.Goals as goal

pub returns : goal.returns
returns c = sound_complex
