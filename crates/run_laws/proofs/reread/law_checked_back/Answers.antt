use Rattle.run_laws.proofs.Checked.{checked_back}
use Rattle.run_laws.proofs.reread.law_checked_back.Goals as goal

pub returns : goal.returns
returns c = checked_back
