use Rattle.std.proofs.Common.{◌++◌, ap, ◌∙◌}
use Rattle.std.specs.Prelude.{codes}
use Rattle.std.specs.Fmt.{decimal}
use Rattle.solver_files.specs.Mesh.{mesh_of}
use Rattle.solver_files.specs.Vtk.{cell_count}
use Rattle.solver_files.specs.Msh.{tet_line, triangle_line}
use Rattle.solver_files.proofs.Parts.{then_part, last_part, numbered_texts}
use Rattle.solver_files.proofs.msh.put_elements.Goals as goal

pub returns : goal.returns
returns c =
    let m = mesh_of c.args.mesh.now in
    let out = c.args.out.now in
    let head = codes "$Elements\n" ++ decimal (cell_count m) ++ codes "\n" in
    let begun = c.in_ok-put_heading.ensures ∙ ap (λ n. out ++ (codes "$Elements\n" ++ decimal n ++ codes "\n")) c.cell_count.ensures in
    let tets = numbered_texts (tet_line m) 0 m.rows in
    let faces = numbered_texts (triangle_line m) 0 m.faces in
    let first = then_part out head c.put_heading.new.out c.put_rows.new.out tets begun c.in_ok-put_rows.ensures in
    let both = then_part out (head ++ tets) c.put_rows.new.out c.put_faces.new.out faces first c.in_ok-put_faces.ensures in
    last_part c.append.result out (head ++ tets ++ faces) c.put_faces.new.out c.append.new.self (codes "$EndElements\n") both c.append.ensures.ok
