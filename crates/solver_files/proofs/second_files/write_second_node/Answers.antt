use Rattle.std.proofs.Common.{◌+◌, ◌++◌, ap, ◌∙◌, length}
use Rattle.solver_files.specs.Mesh.{points_of}
use Rattle.solver_files.specs.Second.{second_of}
use Rattle.solver_files.specs.SecondTexts.{lines_behind, middle_line, second_head, second_node_text}
use Rattle.node_files.specs.Writing.{node_text_from}
use Rattle.solver_files.proofs.Parts.{numbered_texts, then_part}
use Rattle.solver_files.proofs.second_files.write_second_node.Goals as goal

pub returns : goal.returns
returns c =
    let m = second_of c.args.mesh.now in
    let out = c.new-out.result in
    let points = node_text_from m.mesh.origin m.mesh.table m.mesh.added c.args.first in
    let lines = c.in_ok-append.ensures.ok ∙ ap (λ s. c.put_head.new.out ++ s) (c.lines_behind.ensures ∙ ap lines_behind (c.as_slice.ensures ∙ c.in_ok-text.ensures)) in
    let first = then_part out (second_head m) c.put_head.new.out c.append.new.self (lines_behind points) c.in_ok-put_head.ensures lines in
    let middles = numbered_texts (middle_line m) (length (points_of m.mesh) + c.args.first) m.sides in
    let all = then_part out (second_head m ++ lines_behind points) c.append.new.self c.put_middle_lines.new.out middles first c.in_ok-put_middle_lines.ensures in
    all ∙ ap (λ s. s ++ second_node_text m c.args.first) c.new-out.ensures
