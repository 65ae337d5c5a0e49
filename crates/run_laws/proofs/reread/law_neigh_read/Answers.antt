use Rattle.run_laws.proofs.Rows.{neigh_read}
use Rattle.run_laws.proofs.reread.law_neigh_read.Goals as goal

pub returns : goal.returns
returns c = neigh_read
