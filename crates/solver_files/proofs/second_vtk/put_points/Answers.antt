use Rattle.std.proofs.Common.{◌++◌, sym, ap, ◌∙◌, append_assoc}
use Rattle.std.specs.Prelude.{codes, flat_map}
use Rattle.std.specs.Fmt.{decimal}
use Rattle.std.proofs.lemmas.Grind.{flat_map-append}
use Rattle.solver_files.specs.Mesh.{points_of}
use Rattle.solver_files.specs.Second.{second_count, second_of}
use Rattle.solver_files.specs.SecondTexts.{middle_place_line}
use Rattle.solver_files.specs.Vtk.{place_line}
use Rattle.solver_files.proofs.Parts.{then_part, last_part}
use Rattle.solver_files.proofs.second_vtk.put_points.Goals as goal

pub returns : goal.returns
returns c =
    let m = second_of c.args.mesh.now in
    let out = c.args.out.now in
    let words = codes "# vtk DataFile Version 3.0\ntetgen\nASCII\nDATASET UNSTRUCTURED_GRID\nPOINTS " in
    let head = words ++ decimal (second_count m) ++ codes " double\n" in
    let begun = c.in_ok-put_heading.ensures ∙ ap (λ n. out ++ (words ++ decimal n ++ codes " double\n")) c.count.ensures in
    let listed = flat_map (place_line m.mesh) m.mesh.table.listed in
    let added = flat_map (place_line m.mesh) m.mesh.added in
    let points = flat_map (place_line m.mesh) (points_of m.mesh) in
    let first = then_part out head c.put_heading.new.out c.put_places.new.out listed begun c.in_ok-put_places.ensures in
    let both = then_part out (head ++ listed) c.put_places.new.out c.put_places-2.new.out added first c.in_ok-put_places-2.ensures
    ∙ ap (λ s. out ++ s) (append_assoc head listed added ∙ ap (λ s. head ++ s) (sym (flat_map-append (place_line m.mesh) m.mesh.table.listed m.mesh.added))) in
    last_part c.put_middle_places.result out (head ++ points) c.put_places-2.new.out c.put_middle_places.new.out (flat_map (middle_place_line m) m.sides) both c.put_middle_places.ensures
