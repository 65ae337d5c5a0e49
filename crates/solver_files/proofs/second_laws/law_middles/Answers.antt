use Rattle.solver_files.proofs.Edges.{law_middles}
use Rattle.solver_files.proofs.second_laws.law_middles.Goals as goal

pub returns : goal.returns
returns c = law_middles
