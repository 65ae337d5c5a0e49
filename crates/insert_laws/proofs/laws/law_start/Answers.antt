use Rattle.insert_laws.proofs.Start.{law_start}
use Rattle.insert_laws.proofs.laws.law_start.Goals as goal

pub returns : goal.returns
returns c = law_start
