use Rattle.run_laws.proofs.WrittenBack.{written_back}
use Rattle.run_laws.proofs.measured.law_written_back.Goals as goal

pub returns : goal.returns
returns c = written_back
