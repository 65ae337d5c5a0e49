use Rattle.run_laws.proofs.AsTetgen.{fit_as_tetgen}
use Rattle.run_laws.proofs.fit_runs.law_fit_as_tetgen.Goals as goal

pub returns : goal.returns
returns c = fit_as_tetgen
