use Rattle.std.proofs.Common.{◌++◌, List, ap, refl, ◌∙◌}
use Rattle.geo_laws.specs.declared.faces.Side.{Side}
use Rattle.mesh_files.specs.Texts.{marked_corners}
use Rattle.solver_files.specs.Second.{corner_fields, second_of}
use Rattle.solver_files.specs.SecondRows.{face_edges, face_end, face_front}
use Rattle.solver_files.proofs.Parts.{both_parts, then_part}
use Rattle.solver_files.proofs.second_rows.put_face_row.Goals as goal

pub returns : goal.returns
returns c =
    let m = second_of c.args.mesh.now in
    let out = c.args.out.now in
    let f = c.args.face in
    let front = face_front c.args.format m.mesh c.args.first c.args.place f in
    let fields = corner_fields m c.args.first (marked_corners f) (face_edges c.args.format f) in
    let end = face_end c.args.format f in
    let edges = c.in_ok-put_corner_fields.ensures ∙ ap (λ (es : List Side). c.put_face_front.new.out ++ corner_fields m c.args.first (marked_corners f) es) c.face_edges.ensures in
    both_parts c.put_face_end.result out front c.put_corner_fields.new.out c.put_face_end.new.out fields end (fields ++ end) refl
    (then_part out front c.put_face_front.new.out c.put_corner_fields.new.out fields c.in_ok-put_face_front.ensures edges) c.put_face_end.ensures
