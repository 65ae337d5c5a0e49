use Rattle.insert_laws.proofs.InsideLaw.{law_inside_cavity}
use Rattle.insert_laws.proofs.lowest.law_inside_cavity.Goals as goal

pub returns : goal.returns
returns c = law_inside_cavity
