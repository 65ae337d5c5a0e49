use Rattle.refining.proofs.Meshables.{law_meshable}
use Rattle.refining.proofs.meshable.law_meshable.Goals as goal

pub returns : goal.returns
returns c = law_meshable
