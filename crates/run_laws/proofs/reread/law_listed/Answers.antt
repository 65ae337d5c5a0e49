use Rattle.run_laws.proofs.Listed.{listed_names}
use Rattle.run_laws.proofs.reread.law_listed.Goals as goal

pub returns : goal.returns
returns c = listed_names
