use Rattle.weighted_mesh.proofs.Weighted.{law_regular_row}
use Rattle.weighted_mesh.proofs.weighted_laws.law_regular_row.Goals as goal

pub returns : goal.returns
returns c = law_regular_row
