use Rattle.run_laws.proofs.Soundness.{apart_rows}
use Rattle.run_laws.proofs.sound.law_apart.Goals as goal

pub returns : goal.returns
returns c = apart_rows
