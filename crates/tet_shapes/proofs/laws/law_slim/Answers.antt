use Rattle.tet_shapes.proofs.Slim.{slim_is}
use Rattle.tet_shapes.proofs.laws.law_slim.Goals as goal

pub returns : goal.returns
returns c = slim_is
