use Rattle.complex_laws.proofs.SoundComplex.{law_listed}
use Rattle.complex_laws.proofs.borders.law_listed.Goals as goal

pub returns : goal.returns
returns c = law_listed
