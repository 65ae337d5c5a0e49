use Rattle.tet_shapes.proofs.Center.{radius_is}
use Rattle.tet_shapes.proofs.laws.law_radius.Goals as goal

pub returns : goal.returns
returns c = radius_is
