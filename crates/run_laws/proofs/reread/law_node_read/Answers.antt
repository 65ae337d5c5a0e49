use Rattle.run_laws.proofs.Points.{node_read}
use Rattle.run_laws.proofs.reread.law_node_read.Goals as goal

pub returns : goal.returns
returns c = node_read
