use Rattle.run_laws.proofs.Nonplanar.{changes, ends, refused, tells}
use Rattle.run_laws.proofs.worked.law_nonplanar.Goals as goal

pub returns-clause-refused : goal.returns-clause-refused
returns-clause-refused c = refused

pub returns-clause-status : goal.returns-clause-status
returns-clause-status c = ends

pub returns-clause-unchanged : goal.returns-clause-unchanged
returns-clause-unchanged c = changes

pub returns-clause-told : goal.returns-clause-told
returns-clause-told c = tells
