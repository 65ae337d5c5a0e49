use Rattle.cavity_insert.proofs.Lifts.{above_of}
use Rattle.cavity_insert.proofs.lifting.PointsLift.is_outside.Goals as goal

pub returns : goal.returns
returns c = above_of c.args.self.now c.args.row c.args.number c.outside_of.result c.requires c.outside_of.ensures
