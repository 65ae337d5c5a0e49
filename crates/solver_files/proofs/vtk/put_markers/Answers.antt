use Rattle.std.proofs.Common.{◌++◌, ap, ◌∙◌, length}
use Rattle.std.specs.Prelude.{codes, flat_map}
use Rattle.solver_files.specs.Mesh.{mesh_of, copies}
use Rattle.solver_files.specs.Vtk.{marker_line}
use Rattle.solver_files.proofs.Parts.{then_part, last_part}
use Rattle.solver_files.proofs.vtk.put_markers.Goals as goal

pub returns : goal.returns
returns c =
    let m = mesh_of c.args.mesh.now in
    let out = c.args.out.now in
    let head = codes "SCALARS marker long 1\nLOOKUP_TABLE default\n" in
    let tets = copies (length m.rows) (codes "0\n") in
    let more = c.in_ok-put_copies.ensures ∙ ap (λ n. c.append.new.self ++ copies n (codes "0\n")) c.len.ensures.count in
    let first = then_part out head c.append.new.self c.put_copies.new.out tets c.in_ok-append.ensures.ok more in
    last_part c.put_face_markers.result out (head ++ tets) c.put_copies.new.out c.put_face_markers.new.out (flat_map marker_line m.faces) first c.put_face_markers.ensures
