use Rattle.std.proofs.Common.{subst, arith}
use Rattle.mesh_files.specs.Texts.{marked_corners, AreNamed}
use Rattle.mesh_files.specs.declared.markers.FaceRow.{FaceRow}
use Rattle.solver_files.specs.Vtk.{face_cell}
use Rattle.solver_files.proofs.Parts.{next_item}
use Rattle.solver_files.proofs.vtk.put_faces.Goals as goal

pub loop-i-preserved : goal.loop-i-preserved
loop-i-preserved c =
    next_item (face_cell c.args.names.now) c.loop-i.i c.args.faces.now c.at.result c.loop-i.out _ _ (omega arith) (c.at.ensures c.at.result) c.in_ok-put_face.ensures c.loop-i.invariant

pub put_face-requires : goal.put_face-requires
put_face-requires c =
    subst (λ (t : FaceRow). AreNamed c.args.names.now (marked_corners t)) (c.at.ensures c.at.result) (c.requires c.loop-i.i c.at.result (omega arith))
