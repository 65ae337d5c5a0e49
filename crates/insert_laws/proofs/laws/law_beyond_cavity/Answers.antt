use Rattle.insert_laws.proofs.Insert.{law_beyond_cavity}
use Rattle.insert_laws.proofs.laws.law_beyond_cavity.Goals as goal

pub returns : goal.returns
returns c = law_beyond_cavity
