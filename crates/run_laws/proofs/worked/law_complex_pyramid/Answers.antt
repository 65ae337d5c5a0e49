use Rattle.run_laws.proofs.ComplexRuns.{complex_run}
use Rattle.run_laws.proofs.worked.law_complex_pyramid.Goals as goal

pub returns-clause-outputs : goal.returns-clause-outputs
returns-clause-outputs c = complex_run.has

pub returns-clause-only : goal.returns-clause-only
returns-clause-only c = complex_run.only

pub returns-clause-done : goal.returns-clause-done
returns-clause-done c = complex_run.done

pub returns-clause-left : goal.returns-clause-left
returns-clause-left c = complex_run.left
