use Rattle.run_laws.proofs.CompleteChecks.{check_complete}
use Rattle.run_laws.proofs.complete_checks.law_check_complete.Goals as goal

pub returns : goal.returns
returns c = check_complete
