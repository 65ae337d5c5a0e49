use Rattle.run_laws.proofs.Rows.{ele_read}
use Rattle.run_laws.proofs.reread.law_ele_read.Goals as goal

pub returns : goal.returns
returns c = ele_read
