use Rattle.soup_files.proofs.Widening.{off_wider}
use Rattle.soup_files.proofs.laws.law_wide_off.Goals as goal

pub returns : goal.returns
returns c = off_wider
