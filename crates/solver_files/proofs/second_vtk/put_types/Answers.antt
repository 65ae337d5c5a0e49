use Rattle.std.proofs.Common.{◌≡◌, ◌++◌, ap, subst, ◌∙◌, length}
use Rattle.std.specs.Prelude.{codes, OnOk}
use Rattle.std.specs.Fmt.{decimal}
use Rattle.solver_files.specs.Mesh.{mesh_of, copies}
use Rattle.solver_files.specs.Vtk.{cell_count}
use Rattle.solver_files.proofs.Parts.{then_part, last_part}
use Rattle.solver_files.proofs.second_vtk.put_types.Goals as goal

pub returns : goal.returns
returns c =
    let m = mesh_of c.args.mesh.now in
    let out = c.args.out.now in
    let head = codes "CELL_TYPES " ++ decimal (cell_count m) ++ codes "\n" in
    let tets = copies (length m.rows) (codes "24\n") in
    let begun = c.in_ok-put_heading.ensures ∙ ap (λ n. out ++ (codes "CELL_TYPES " ++ decimal n ++ codes "\n")) c.cell_count.ensures in
    let more = c.in_ok-put_copies.ensures ∙ ap (λ n. c.put_heading.new.out ++ copies n (codes "24\n")) c.len.ensures.count in
    let last = subst (λ n. OnOk c.put_copies-2.result (c.put_copies-2.new.out ≡ c.put_copies.new.out ++ copies n (codes "22\n"))) c.len-2.ensures.count c.put_copies-2.ensures in
    let first = then_part out head c.put_heading.new.out c.put_copies.new.out tets begun more in
    last_part c.put_copies-2.result out (head ++ tets) c.put_copies.new.out c.put_copies-2.new.out (copies (length m.faces) (codes "22\n")) first last
