use Rattle.std.proofs.Common.{◌++◌, ap, ◌∙◌}
use Rattle.solver_files.specs.Mesh.{mesh_of}
use Rattle.solver_files.specs.Vtk.{vtk_points, vtk_cells, vtk_types, vtk_regions, vtk_markers, vtk_text}
use Rattle.solver_files.proofs.Parts.{then_part}
use Rattle.solver_files.proofs.vtk.write_vtk.Goals as goal

pub returns : goal.returns
returns c =
    let m = mesh_of c.args.mesh.now in
    let out = c.new-out.result in
    let two = then_part out (vtk_points m) c.put_points.new.out c.put_cells.new.out (vtk_cells m) c.in_ok-put_points.ensures c.in_ok-put_cells.ensures in
    let three = then_part out (vtk_points m ++ vtk_cells m) c.put_cells.new.out c.put_types.new.out (vtk_types m) two c.in_ok-put_types.ensures in
    let four = then_part out (vtk_points m ++ vtk_cells m ++ vtk_types m) c.put_types.new.out c.put_regions.new.out (vtk_regions m) three c.in_ok-put_regions.ensures in
    let five = then_part out (vtk_points m ++ vtk_cells m ++ vtk_types m ++ vtk_regions m) c.put_regions.new.out c.put_markers.new.out (vtk_markers m) four c.in_ok-put_markers.ensures in
    five ∙ ap (λ s. s ++ vtk_text m) c.new-out.ensures
