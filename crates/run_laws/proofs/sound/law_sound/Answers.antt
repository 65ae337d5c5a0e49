use Rattle.run_laws.proofs.Soundness.{sound_mesh}
use Rattle.run_laws.proofs.sound.law_sound.Goals as goal

pub returns : goal.returns
returns c = sound_mesh
