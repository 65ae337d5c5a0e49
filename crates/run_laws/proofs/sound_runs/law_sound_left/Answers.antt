use Rattle.run_laws.proofs.SoundRun.{sound_left}
use Rattle.run_laws.proofs.sound_runs.law_sound_left.Goals as goal

pub returns : goal.returns
returns c = sound_left
