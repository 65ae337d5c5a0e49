use Rattle.mesh_check.proofs.Spheres.{inside_is}
use Rattle.mesh_check.proofs.sphere.is_inside_sphere.Goals as goal

pub returns : goal.returns
returns c = inside_is c.args.t c.args.p c.outside.result c.outside.ensures
