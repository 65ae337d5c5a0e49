use Rattle.std.proofs.Common.{◌++◌, ap, ◌∙◌}
use Rattle.solver_files.specs.Second.{second_of}
use Rattle.solver_files.specs.SecondTexts.{second_vtk_points, second_vtk_cells, second_vtk_types, second_vtk_text}
use Rattle.solver_files.specs.Vtk.{vtk_regions, vtk_markers}
use Rattle.solver_files.proofs.Parts.{then_part}
use Rattle.solver_files.proofs.second_vtk.write_second_vtk.Goals as goal

pub returns : goal.returns
returns c =
    let m = second_of c.args.mesh.now in
    let out = c.new-out.result in
    let one = second_vtk_points m in
    let two = one ++ second_vtk_cells m in
    let three = two ++ second_vtk_types m.mesh in
    let four = three ++ vtk_regions m.mesh in
    let cells = then_part out one c.put_points.new.out c.put_cells.new.out (second_vtk_cells m) c.in_ok-put_points.ensures c.in_ok-put_cells.ensures in
    let types = then_part out two c.put_cells.new.out c.put_types.new.out (second_vtk_types m.mesh) cells c.in_ok-put_types.ensures in
    let regions = then_part out three c.put_types.new.out c.put_regions.new.out (vtk_regions m.mesh) types c.in_ok-put_regions.ensures in
    let markers = then_part out four c.put_regions.new.out c.put_markers.new.out (vtk_markers m.mesh) regions c.in_ok-put_markers.ensures in
    markers ∙ ap (λ s. s ++ second_vtk_text m) c.new-out.ensures
