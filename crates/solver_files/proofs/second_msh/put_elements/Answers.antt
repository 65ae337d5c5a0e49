use Rattle.std.proofs.Common.{◌++◌, ap, ◌∙◌}
use Rattle.std.specs.Prelude.{codes}
use Rattle.std.specs.Fmt.{decimal}
use Rattle.solver_files.specs.Second.{second_of}
use Rattle.solver_files.specs.SecondRows.{face_rows, tet_rows}
use Rattle.solver_files.specs.Vtk.{cell_count}
use Rattle.solver_files.specs.declared.second_rows.Format.TheVariants.{Gmsh}
use Rattle.solver_files.proofs.Parts.{then_part, last_part}
use Rattle.solver_files.proofs.second_msh.put_elements.Goals as goal

pub returns : goal.returns
returns c =
    let m = second_of c.args.mesh.now in
    let out = c.args.out.now in
    let head = codes "$Elements\n" ++ decimal (cell_count m.mesh) ++ codes "\n" in
    let begun = c.in_ok-put_heading.ensures ∙ ap (λ n. out ++ (codes "$Elements\n" ++ decimal n ++ codes "\n")) c.cell_count.ensures in
    let tets = tet_rows Gmsh m 1 in
    let faces = face_rows Gmsh m 1 in
    let first = then_part out head c.put_heading.new.out c.put_tet_rows.new.out tets begun c.in_ok-put_tet_rows.ensures in
    let both = then_part out (head ++ tets) c.put_tet_rows.new.out c.put_face_rows.new.out faces first c.in_ok-put_face_rows.ensures in
    last_part c.append.result out (head ++ tets ++ faces) c.put_face_rows.new.out c.append.new.self (codes "$EndElements\n") both c.append.ensures.ok
