use Rattle.complex_laws.proofs.SoundComplex.{law_complex}
use Rattle.complex_laws.proofs.borders.law_complex.Goals as goal

pub returns : goal.returns
returns c = law_complex
