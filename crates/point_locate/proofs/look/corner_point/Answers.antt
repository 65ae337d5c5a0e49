use Rattle.std.proofs.Common.{subst}
use Rattle.point_locate.specs.Place.{IsCornerOn}
use Rattle.point_locate.proofs.look.corner_point.Goals as goal

pub at-requires : goal.at-requires
at-requires c = subst (IsCornerOn c.args.points.now) c.in-Point.is c.requires
