use Rattle.solver_files.proofs.MshTexts.{law_msh_text}
use Rattle.solver_files.proofs.laws.law_msh_text.Goals as goal

pub returns : goal.returns
returns c = law_msh_text
