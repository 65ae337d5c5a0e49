use Rattle.run_laws.proofs.CompleteChecks.{where_complete}
use Rattle.run_laws.proofs.complete_checks.law_where_complete.Goals as goal

pub returns : goal.returns
returns c = where_complete
