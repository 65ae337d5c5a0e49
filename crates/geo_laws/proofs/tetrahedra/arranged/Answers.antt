use Rattle.geo_laws.proofs.Arrangement.{even_after}
use Rattle.geo_laws.proofs.tetrahedra.arranged.Goals as goal

pub returns-clause-even : goal.returns-clause-even
returns-clause-even c =
    even_after c.args.t c.least_first.result c.least_second.result c.least_first.ensures.even c.least_second.ensures.even

pub returns-clause-first : goal.returns-clause-first
returns-clause-first c = c.least_second.ensures.first c.least_first.ensures.least
