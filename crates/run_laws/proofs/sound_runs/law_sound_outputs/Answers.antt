use Rattle.run_laws.proofs.SoundRun.{sound_outputs}
use Rattle.run_laws.proofs.sound_runs.law_sound_outputs.Goals as goal

pub returns : goal.returns
returns c = sound_outputs
