use Rattle.geo_laws.specs.Arrangement.{itself, rotated}
use Rattle.geo_laws.proofs.tetrahedra.least_second.Goals as goal

pub returns-then-b-least-clause-even : goal.returns-then-b-least-clause-even
returns-then-b-least-clause-even c = itself

pub returns-then-c-least-clause-even : goal.returns-then-c-least-clause-even
returns-then-c-least-clause-even c = rotated c.args.t itself

pub returns-else-c-least-clause-even : goal.returns-else-c-least-clause-even
returns-else-c-least-clause-even c = rotated _ (rotated c.args.t itself)
