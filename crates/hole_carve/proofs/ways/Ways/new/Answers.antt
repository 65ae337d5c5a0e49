use Rattle.hole_carve.proofs.Steps.{ways-length}
use Rattle.hole_carve.proofs.ways.Ways.new.Goals as goal

pub returns-clause-long : goal.returns-clause-long
returns-clause-long c = ways-length c.args.closed.now c.args.list.now
