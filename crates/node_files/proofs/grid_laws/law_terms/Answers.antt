use Rattle.node_files.proofs.LowestTerms.{terms_are}
use Rattle.node_files.proofs.grid_laws.law_terms.Goals as goal

pub returns : goal.returns
returns c = terms_are
