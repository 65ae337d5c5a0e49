use Rattle.std.proofs.Common.{◌≡◌, ℕ, ◌++◌, ap, subst, ◌∙◌, length}
use Rattle.std.specs.Prelude.{codes, OnOk}
use Rattle.std.specs.Fmt.{decimal}
use Rattle.geo_laws.specs.declared.tetrahedra.Tet.{Tet}
use Rattle.solver_files.specs.Mesh.{mesh_of, copies}
use Rattle.solver_files.specs.Vtk.{cell_count, scalar_line}
use Rattle.solver_files.proofs.Parts.{then_part, last_part, numbered_texts}
use Rattle.solver_files.proofs.vtk.put_regions.Goals as goal

pub returns : goal.returns
returns c =
    let m = mesh_of c.args.mesh.now in
    let out = c.args.out.now in
    let after = codes "\nSCALARS region double 1\nLOOKUP_TABLE default\n" in
    let head = codes "CELL_DATA " ++ decimal (cell_count m) ++ after in
    let tets = numbered_texts (λ (place : ℕ) (t : Tet). scalar_line m place) 0 m.rows in
    let begun = c.in_ok-put_heading.ensures ∙ ap (λ n. out ++ (codes "CELL_DATA " ++ decimal n ++ after)) c.cell_count.ensures in
    let last = subst (λ n. OnOk c.put_copies.result (c.put_copies.new.out ≡ c.put_scalars.new.out ++ copies n (codes "0\n"))) c.len.ensures.count c.put_copies.ensures in
    let first = then_part out head c.put_heading.new.out c.put_scalars.new.out tets begun c.in_ok-put_scalars.ensures in
    last_part c.put_copies.result out (head ++ tets) c.put_scalars.new.out c.put_copies.new.out (copies (length m.faces) (codes "0\n")) first last
