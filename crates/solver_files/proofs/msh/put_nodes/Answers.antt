use Rattle.std.proofs.Common.{◌+◌, ◌++◌, sym, ap, ◌∙◌, length, append_assoc, arith}
use Rattle.std.specs.Prelude.{codes}
use Rattle.std.specs.Fmt.{decimal}
use Rattle.solver_files.specs.Mesh.{mesh_of, points_of}
use Rattle.solver_files.specs.Msh.{node_line}
use Rattle.solver_files.proofs.Parts.{then_part, last_part, numbered_texts, numbered_both}
use Rattle.solver_files.proofs.msh.put_nodes.Goals as goal

pub returns : goal.returns
returns c =
    let m = mesh_of c.args.mesh.now in
    let out = c.args.out.now in
    let words = codes "$MeshFormat\n2.2 0 8\n$EndMeshFormat\n$Nodes\n" in
    let head = words ++ decimal (length (points_of m)) ++ codes "\n" in
    let begun = c.in_ok-put_heading.ensures ∙ ap (λ n. out ++ (words ++ decimal n ++ codes "\n")) c.point_count.ensures.count in
    let text = numbered_texts (node_line m) in
    let listed = text 1 m.table.listed in
    let from = 1 + c.len.result in
    let added = text from m.added in
    let first = then_part out head c.put_heading.new.out c.put_node_lines.new.out listed begun c.in_ok-put_node_lines.ensures in
    let both = then_part out (head ++ listed) c.put_node_lines.new.out c.put_node_lines-2.new.out added first c.in_ok-put_node_lines-2.ensures
    ∙ ap (λ s. out ++ s) (append_assoc head listed added ∙ ap (λ s. head ++ s) (sym (numbered_both (node_line m) 1 from m.table.listed m.added (omega (arith, c.len.ensures.count))))) in
    last_part c.append.result out (head ++ text 1 (points_of m)) c.put_node_lines-2.new.out c.append.new.self (codes "$EndNodes\n") both c.append.ensures.ok
