use Rattle.run_laws.proofs.Complexes.{plc_read}
use Rattle.run_laws.proofs.inputs.law_plc_read.Goals as goal

pub returns : goal.returns
returns c = plc_read
