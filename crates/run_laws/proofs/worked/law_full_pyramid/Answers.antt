use Rattle.run_laws.proofs.Outputs.{full_written}
use Rattle.run_laws.proofs.PyramidRuns.{full_run}
use Rattle.run_laws.proofs.worked.law_full_pyramid.Goals as goal

pub returns-clause-outputs : goal.returns-clause-outputs
returns-clause-outputs c = full_run.has

pub returns-clause-only : goal.returns-clause-only
returns-clause-only c = full_run.only

pub returns-clause-done : goal.returns-clause-done
returns-clause-done c = full_run.done

pub returns-clause-left : goal.returns-clause-left
returns-clause-left c = full_run.left

pub returns-clause-summary : goal.returns-clause-summary
returns-clause-summary c = full_written
