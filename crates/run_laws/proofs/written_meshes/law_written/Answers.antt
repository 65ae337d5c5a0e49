use Rattle.run_laws.proofs.Written.{written}
use Rattle.run_laws.proofs.written_meshes.law_written.Goals as goal

pub returns : goal.returns
returns c = written
