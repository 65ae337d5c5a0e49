use Rattle.geo_laws.proofs.Nudge.{law_nudge}
use Rattle.geo_laws.proofs.laws.law_nudge.Goals as goal

pub returns : goal.returns
returns c = law_nudge
