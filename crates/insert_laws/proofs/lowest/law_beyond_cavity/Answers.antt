use Rattle.insert_laws.proofs.BeyondLaw.{law_beyond_cavity}
use Rattle.insert_laws.proofs.lowest.law_beyond_cavity.Goals as goal

pub returns : goal.returns
returns c = law_beyond_cavity
