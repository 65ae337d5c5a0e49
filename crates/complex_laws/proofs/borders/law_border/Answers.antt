use Rattle.complex_laws.proofs.Border.{law_border}
use Rattle.complex_laws.proofs.borders.law_border.Goals as goal

pub returns : goal.returns
returns c = law_border
