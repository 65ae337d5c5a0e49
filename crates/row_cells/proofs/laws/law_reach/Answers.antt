use Rattle.row_cells.proofs.Reach.{reach_law}
use Rattle.row_cells.proofs.laws.law_reach.Goals as goal

pub returns : goal.returns
returns c = reach_law
