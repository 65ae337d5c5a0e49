use Rattle.tangle_fill.proofs.Indexed.{none_indexed}
use Rattle.tangle_fill.proofs.growth.Growth.new.Goals as goal

pub returns-clause-indexed : goal.returns-clause-indexed
returns-clause-indexed c = none_indexed _ c.new.ensures c.new-2.ensures.empty
