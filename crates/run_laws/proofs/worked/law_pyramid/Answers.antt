use Rattle.run_laws.proofs.Outputs.{plain_written}
use Rattle.run_laws.proofs.PyramidRuns.{plain_run}
use Rattle.run_laws.proofs.worked.law_pyramid.Goals as goal

pub returns-clause-outputs : goal.returns-clause-outputs
returns-clause-outputs c = plain_run.has

pub returns-clause-only : goal.returns-clause-only
returns-clause-only c = plain_run.only

pub returns-clause-done : goal.returns-clause-done
returns-clause-done c = plain_run.done

pub returns-clause-left : goal.returns-clause-left
returns-clause-left c = plain_run.left

pub returns-clause-summary : goal.returns-clause-summary
returns-clause-summary c = plain_written
