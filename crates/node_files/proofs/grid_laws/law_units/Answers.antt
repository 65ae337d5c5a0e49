use Rattle.node_files.proofs.LowestTerms.{units_are}
use Rattle.node_files.proofs.grid_laws.law_units.Goals as goal

pub returns : goal.returns
returns c = units_are
