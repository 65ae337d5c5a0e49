use Rattle.std.proofs.Common.{◌≡◌, length, ◌+◌, ◌++◌, ℕ, ap, refl, subst, ◌∙◌, arith}
use Rattle.mesh_files.specs.Texts.{marked_corners, AreNamed}
use Rattle.mesh_files.specs.declared.markers.FaceRow.{FaceRow}
use Rattle.solver_files.specs.Mesh.{mesh_of, marker_tag}
use Rattle.solver_files.specs.Msh.{element_line, triangle_line}
use Rattle.solver_files.proofs.Parts.{next_numbered}
use Rattle.solver_files.proofs.msh.put_faces.Goals as goal

pub loop-i-preserved : goal.loop-i-preserved
loop-i-preserved c =
    let m = mesh_of c.args.mesh.now in
    let i = c.loop-i.i in
    let f = c.at-face.result in
    let number : (c.len.result + 1) + i ≡ length m.rows + i + 1 = omega (arith, c.len.ensures.count) in
    let line = c.in_ok-put_face.ensures ∙ ap (λ (n : ℕ). c.loop-i.out ++ element_line m.names n 2 (marker_tag f.marker) (marked_corners f)) number in
    next_numbered (triangle_line m) i (i + 1) i m.faces f c.loop-i.out _ _ refl (omega arith) (c.at-face.ensures f) line c.loop-i.invariant

pub put_face-requires : goal.put_face-requires
put_face-requires c =
    subst (λ (f : FaceRow). AreNamed c.args.mesh.now.names.now (marked_corners f)) (c.at-face.ensures c.at-face.result) (c.requires.faces_named c.loop-i.i c.at-face.result (omega arith))
