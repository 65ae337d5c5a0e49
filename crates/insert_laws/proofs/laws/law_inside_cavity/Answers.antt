use Rattle.insert_laws.proofs.Insert.{law_inside_cavity}
use Rattle.insert_laws.proofs.laws.law_inside_cavity.Goals as goal

pub returns : goal.returns
returns c = law_inside_cavity
