use Rattle.std.proofs.Common.{◌+◌, ◌++◌, sym, ap, ◌∙◌, length, append_assoc, arith}
use Rattle.std.specs.Prelude.{codes}
use Rattle.std.specs.Fmt.{decimal}
use Rattle.solver_files.specs.Mesh.{points_of}
use Rattle.solver_files.specs.Msh.{node_line}
use Rattle.solver_files.specs.Second.{second_count, second_of}
use Rattle.solver_files.specs.SecondTexts.{middle_node}
use Rattle.solver_files.proofs.Parts.{then_part, last_part, numbered_texts, numbered_both}
use Rattle.solver_files.proofs.second_msh.put_nodes.Goals as goal

pub returns : goal.returns
returns c =
    let m = second_of c.args.mesh.now in
    let out = c.args.out.now in
    let words = codes "$MeshFormat\n2.2 0 8\n$EndMeshFormat\n$Nodes\n" in
    let head = words ++ decimal (second_count m) ++ codes "\n" in
    let begun = c.in_ok-put_heading.ensures ∙ ap (λ n. out ++ (words ++ decimal n ++ codes "\n")) c.count.ensures in
    let text = numbered_texts (node_line m.mesh) in
    let listed = text 1 m.mesh.table.listed in
    let from = 1 + c.len.result in
    let added = text from m.mesh.added in
    let first = then_part out head c.put_heading.new.out c.put_node_lines.new.out listed begun c.in_ok-put_node_lines.ensures in
    let both = then_part out (head ++ listed) c.put_node_lines.new.out c.put_node_lines-2.new.out added first c.in_ok-put_node_lines-2.ensures
    ∙ ap (λ s. out ++ s) (append_assoc head listed added ∙ ap (λ s. head ++ s) (sym (numbered_both (node_line m.mesh) 1 from m.mesh.table.listed m.mesh.added (omega (arith, c.len.ensures.count))))) in
    let points = text 1 (points_of m.mesh) in
    let middles = numbered_texts (middle_node m) (length (points_of m.mesh) + 1) m.sides in
    let all = then_part out (head ++ points) c.put_node_lines-2.new.out c.put_middle_nodes.new.out middles both c.in_ok-put_middle_nodes.ensures in
    last_part c.append.result out (head ++ points ++ middles) c.put_middle_nodes.new.out c.append.new.self (codes "$EndNodes\n") all c.append.ensures.ok
