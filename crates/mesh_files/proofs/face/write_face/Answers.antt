use Rattle.std.proofs.Common.{subst, arith}
use Rattle.mesh_files.specs.Texts.{face_line}
use Rattle.mesh_files.specs.Texts.{marked_corners, AreNamed}
use Rattle.mesh_files.specs.declared.markers.FaceRow.{FaceRow}
use Rattle.mesh_files.proofs.Lines.{next_line}
use Rattle.mesh_files.proofs.face.write_face.Goals as goal

pub loop-i-preserved : goal.loop-i-preserved
loop-i-preserved c =
    next_line (face_line c.args.names.now c.args.first) c.loop-i.i c.args.rows.now c.at.result c.loop-i.out _ _ (omega arith) (c.at.ensures c.at.result) c.in_ok-append_face.ensures c.loop-i.invariant

pub append_face-requires-clause-named : goal.append_face-requires-clause-named
append_face-requires-clause-named c =
    subst (λ (f : FaceRow). AreNamed c.args.names.now (marked_corners f)) (c.at.ensures c.at.result) (c.requires c.loop-i.i c.at.result (omega arith))
