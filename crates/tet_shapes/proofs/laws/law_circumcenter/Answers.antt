use Rattle.tet_shapes.proofs.Center.{center_is}
use Rattle.tet_shapes.proofs.laws.law_circumcenter.Goals as goal

pub returns : goal.returns
returns c = center_is
