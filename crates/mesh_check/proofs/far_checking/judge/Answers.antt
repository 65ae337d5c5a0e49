use Rattle.mesh_check.proofs.CornersOn.{rows_on}
use Rattle.mesh_check.proofs.far_checking.judge.Goals as goal

pub check_mesh-requires : goal.check_mesh-requires
check_mesh-requires c = rows_on c.args.points.now _ c.args.text.now.rows c.requires.count c.requires.there
