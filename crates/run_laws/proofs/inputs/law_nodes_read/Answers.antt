use Rattle.run_laws.proofs.Nodes.{nodes_read}
use Rattle.run_laws.proofs.inputs.law_nodes_read.Goals as goal

pub returns : goal.returns
returns c = nodes_read
