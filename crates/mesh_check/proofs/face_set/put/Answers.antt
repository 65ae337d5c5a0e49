use Rattle.mesh_check.proofs.Faces.{put_is}
use Rattle.mesh_check.proofs.face_set.put.Goals as goal

pub returns : goal.returns
returns c = put_is c.args.set.now c.insert.new.self c.key_of.result c.args.face c.key_of.ensures c.in_ok-insert.ensures.updates.0
