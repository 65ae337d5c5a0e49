use Rattle.std.proofs.Common.{◌++◌, sym, ap, ◌∙◌, length}
use Rattle.std.specs.Prelude.{codes, flat_map}
use Rattle.std.specs.Fmt.{decimal}
use Rattle.std.proofs.lemmas.Grind.{flat_map-append}
use Rattle.solver_files.specs.Mesh.{mesh_of, points_of}
use Rattle.solver_files.specs.Vtk.{place_line}
use Rattle.solver_files.proofs.Parts.{then_part, both_parts}
use Rattle.solver_files.proofs.vtk.put_points.Goals as goal

pub returns : goal.returns
returns c =
    let m = mesh_of c.args.mesh.now in
    let out = c.args.out.now in
    let words = codes "# vtk DataFile Version 3.0\ntetgen\nASCII\nDATASET UNSTRUCTURED_GRID\nPOINTS " in
    let head = words ++ decimal (length (points_of m)) ++ codes " double\n" in
    let begun = c.in_ok-put_heading.ensures ∙ ap (λ n. out ++ (words ++ decimal n ++ codes " double\n")) c.point_count.ensures.count in
    let listed = flat_map (place_line m) m.table.listed in
    let first = then_part out head c.put_heading.new.out c.put_places.new.out listed begun c.in_ok-put_places.ensures in
    both_parts c.put_places-2.result out head c.put_places.new.out c.put_places-2.new.out listed (flat_map (place_line m) m.added) _ (sym (flat_map-append (place_line m) m.table.listed m.added)) first c.put_places-2.ensures
