use Rattle.run_laws.proofs.ReadBack.{read_back}
use Rattle.run_laws.proofs.reread.law_read_back.Goals as goal

pub returns : goal.returns
returns c = read_back
