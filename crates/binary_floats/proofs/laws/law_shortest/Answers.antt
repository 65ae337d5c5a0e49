use Rattle.binary_floats.proofs.Shortest.{is_found, is_shortest}
use Rattle.binary_floats.proofs.laws.law_shortest.Goals as goal

pub returns : goal.returns
returns c = λ s. (is_found s, is_shortest s)
