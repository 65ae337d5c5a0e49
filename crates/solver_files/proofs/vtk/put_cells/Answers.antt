use Rattle.std.proofs.Common.{◌≡◌, ℕ, ◌+◌, ◌*◌, ◌++◌, ap, ◌∙◌, arith}
use Rattle.std.specs.Prelude.{codes, flat_map}
use Rattle.std.specs.Fmt.{decimal}
use Rattle.solver_files.specs.Mesh.{mesh_of}
use Rattle.solver_files.specs.Vtk.{cell_count, cell_size, tet_cell, face_cell}
use Rattle.solver_files.proofs.Parts.{then_part, last_part}
use Rattle.solver_files.proofs.vtk.put_cells.Goals as goal

pub returns : goal.returns
returns c =
    let m = mesh_of c.args.mesh.now in
    let out = c.args.out.now in
    let one = codes "CELLS " ++ decimal (cell_count m) ++ codes " " in
    let two = decimal (cell_size m) ++ codes "\n" in
    let begun = c.in_ok-put_heading.ensures ∙ ap (λ n. out ++ (codes "CELLS " ++ decimal n ++ codes " ")) c.cell_count.ensures in
    let count : 5 * c.len.result + 4 * c.len-2.result ≡ cell_size m = omega (arith, c.len.ensures.count, c.len-2.ensures.count) in
    let size = c.in_ok-put_heading-2.ensures ∙ ap (λ (n : ℕ). c.put_heading.new.out ++ (decimal n ++ codes "\n")) count in
    let head = then_part out one c.put_heading.new.out c.put_heading-2.new.out two begun size in
    let rows = then_part out (one ++ two) c.put_heading-2.new.out c.put_rows.new.out (flat_map (tet_cell m.names) m.rows) head c.in_ok-put_rows.ensures in
    last_part c.put_faces.result out _ c.put_rows.new.out c.put_faces.new.out (flat_map (face_cell m.names) m.faces) rows c.put_faces.ensures
