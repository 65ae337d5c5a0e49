use Rattle.tangle_fill.proofs.Indexed.{none_indexed}
use Rattle.tangle_fill.proofs.growth.Growth.with_room.Goals as goal

pub returns-clause-indexed : goal.returns-clause-indexed
returns-clause-indexed c = none_indexed _ c.in_ok-rows.ensures c.in_ok-sides.ensures.empty
