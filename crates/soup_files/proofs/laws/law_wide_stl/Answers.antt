use Rattle.soup_files.proofs.Widening.{stl_wider}
use Rattle.soup_files.proofs.laws.law_wide_stl.Goals as goal

pub returns : goal.returns
returns c = stl_wider
