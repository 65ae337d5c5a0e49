use Rattle.insert_laws.proofs.HiddenPoints.{law_hidden}
use Rattle.insert_laws.proofs.lowest.law_hidden.Goals as goal

pub returns : goal.returns
returns c = law_hidden
