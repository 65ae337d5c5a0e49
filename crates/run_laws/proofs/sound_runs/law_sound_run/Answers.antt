use Rattle.run_laws.proofs.SoundRun.{sound_run}
use Rattle.run_laws.proofs.sound_runs.law_sound_run.Goals as goal

pub returns : goal.returns
returns c = sound_run
