use Rattle.std.proofs.Common.{map}
use Rattle.incidence.specs.Pairs.{across_in}
use Rattle.incidence.proofs.Settled.{pairs_within}
use Rattle.incidence.proofs.pairs.pair_uses.Goals as goal

pub returns-clause-places : goal.returns-clause-places
returns-clause-places c = pairs_within c.args.list.now (map across_in c.in_ok-kept.kept.items) c.in_ok-kept.ensures
