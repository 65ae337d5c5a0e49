use Rattle.std.proofs.Common.{◌++◌, List, ap, refl, ◌∙◌}
use Rattle.geo_laws.specs.Delaunay.{numbers}
use Rattle.geo_laws.specs.declared.faces.Side.{Side}
use Rattle.solver_files.specs.Second.{corner_fields, second_of}
use Rattle.solver_files.specs.SecondRows.{tet_edges, tet_end, tet_front}
use Rattle.solver_files.proofs.Parts.{both_parts, then_part}
use Rattle.solver_files.proofs.second_rows.put_tet_row.Goals as goal

pub returns : goal.returns
returns c =
    let m = second_of c.args.mesh.now in
    let out = c.args.out.now in
    let t = c.args.row in
    let front = tet_front c.args.format m.mesh c.args.first c.args.place in
    let fields = corner_fields m c.args.first (numbers t) (tet_edges c.args.format t) in
    let end = tet_end c.args.format m.mesh c.args.place in
    let edges = c.in_ok-put_corner_fields.ensures ∙ ap (λ (es : List Side). c.put_tet_front.new.out ++ corner_fields m c.args.first (numbers t) es) c.tet_edges.ensures in
    both_parts c.put_tet_end.result out front c.put_corner_fields.new.out c.put_tet_end.new.out fields end (fields ++ end) refl
    (then_part out front c.put_tet_front.new.out c.put_corner_fields.new.out fields c.in_ok-put_tet_front.ensures edges) c.put_tet_end.ensures
