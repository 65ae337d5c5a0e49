use Rattle.std.proofs.Common.{◌≡◌, ℕ, ◌+◌, ◌*◌, ◌++◌, ap, ◌∙◌, arith}
use Rattle.std.specs.Prelude.{codes}
use Rattle.std.specs.Fmt.{decimal}
use Rattle.solver_files.specs.Second.{second_of}
use Rattle.solver_files.specs.SecondRows.{face_rows, tet_rows}
use Rattle.solver_files.specs.SecondTexts.{second_size}
use Rattle.solver_files.specs.Vtk.{cell_count}
use Rattle.solver_files.specs.declared.second_rows.Format.TheVariants.{Vtk}
use Rattle.solver_files.proofs.Parts.{then_part, last_part}
use Rattle.solver_files.proofs.second_vtk.put_cells.Goals as goal

pub returns : goal.returns
returns c =
    let m = second_of c.args.mesh.now in
    let out = c.args.out.now in
    let one = codes "CELLS " ++ decimal (cell_count m.mesh) ++ codes " " in
    let two = decimal (second_size m.mesh) ++ codes "\n" in
    let begun = c.in_ok-put_heading.ensures ∙ ap (λ n. out ++ (codes "CELLS " ++ decimal n ++ codes " ")) c.cell_count.ensures in
    let count : 11 * c.len.result + 7 * c.len-2.result ≡ second_size m.mesh = omega (arith, c.len.ensures.count, c.len-2.ensures.count) in
    let size = c.in_ok-put_heading-2.ensures ∙ ap (λ (n : ℕ). c.put_heading.new.out ++ (decimal n ++ codes "\n")) count in
    let head = then_part out one c.put_heading.new.out c.put_heading-2.new.out two begun size in
    let tets = then_part out (one ++ two) c.put_heading-2.new.out c.put_tet_rows.new.out (tet_rows Vtk m 0) head c.in_ok-put_tet_rows.ensures in
    last_part c.put_face_rows.result out (one ++ two ++ tet_rows Vtk m 0) c.put_tet_rows.new.out c.put_face_rows.new.out (face_rows Vtk m 0) tets c.put_face_rows.ensures
