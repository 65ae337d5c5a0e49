use Rattle.tangle_laws.proofs.Refilled.{law_paired}
use Rattle.tangle_laws.proofs.laws.law_paired.Goals as goal

pub returns : goal.returns
returns c = law_paired
