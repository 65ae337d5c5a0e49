use Rattle.geo_laws.specs.Arrangement.{itself, swapped}
use Rattle.geo_laws.proofs.Arrangement.{crossed}
use Rattle.geo_laws.proofs.tetrahedra.least_first.Goals as goal

pub returns-then-a-least-clause-even : goal.returns-then-a-least-clause-even
returns-then-a-least-clause-even c = itself

pub returns-then-b-least-clause-even : goal.returns-then-b-least-clause-even
returns-then-b-least-clause-even c = swapped c.args.t itself

pub returns-then-c-least-clause-even : goal.returns-then-c-least-clause-even
returns-then-c-least-clause-even c = crossed c.args.t

pub returns-else-c-least-clause-even : goal.returns-else-c-least-clause-even
returns-else-c-least-clause-even c = swapped _ (crossed c.args.t)
