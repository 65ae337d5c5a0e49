use Rattle.std.proofs.Common.{◌+◌, refl, subst, arith}
use Rattle.mesh_files.specs.declared.markers.FaceRow.{FaceRow}
use Rattle.mesh_files.specs.Texts.{marked_corners, AreNamed}
use Rattle.solver_files.specs.Second.{second_of}
use Rattle.solver_files.specs.SecondRows.{face_row}
use Rattle.solver_files.proofs.Parts.{next_numbered}
use Rattle.solver_files.proofs.second_rows.put_face_rows.Goals as goal

pub loop-i-preserved : goal.loop-i-preserved
loop-i-preserved c =
    let i = c.loop-i.i in
    let line = face_row c.args.format (second_of c.args.mesh.now) c.args.first in
    next_numbered line i (i + 1) i c.args.mesh.now.whole.faces.now c.at.result c.loop-i.out _ _ refl (omega arith) (c.at.ensures c.at.result) c.in_ok-put_face_row.ensures c.loop-i.invariant

pub put_face_row-requires-clause-named : goal.put_face_row-requires-clause-named
put_face_row-requires-clause-named c =
    subst (λ (t : FaceRow). AreNamed c.args.mesh.now.whole.names.now (marked_corners t)) (c.at.ensures c.at.result) (c.requires.written.faces_named c.loop-i.i c.at.result (omega arith))
