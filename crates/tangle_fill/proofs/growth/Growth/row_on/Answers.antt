use Rattle.tangle_fill.proofs.Indexed.{on_turned}
use Rattle.tangle_fill.proofs.growth.Growth.row_on.Goals as goal

pub returns : goal.returns
returns c = on_turned c.args.self.now.rows c.turned.result c.args.f c.turned.ensures c.row_round.result c.row_round.ensures
