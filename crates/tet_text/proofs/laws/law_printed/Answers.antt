use Rattle.tet_text.proofs.Reread.{printed_law}
use Rattle.tet_text.proofs.laws.law_printed.Goals as goal

pub returns : goal.returns
returns c = printed_law
