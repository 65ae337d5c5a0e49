use Rattle.refining.proofs.PointsBehind.{law_plain}
use Rattle.refining.proofs.plain.law_plain.Goals as goal

pub returns : goal.returns
returns c = law_plain
