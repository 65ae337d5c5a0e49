use Rattle.run_laws.proofs.Valid.{valid_complex}
use Rattle.run_laws.proofs.valid_complexes.law_valid_complex.Goals as goal

pub returns : goal.returns
returns c = valid_complex
