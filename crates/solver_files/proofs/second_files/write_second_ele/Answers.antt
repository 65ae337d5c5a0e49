use Rattle.std.proofs.Common.{◌++◌, ap, ◌∙◌}
use Rattle.std.specs.Fmt.{decimal}
use Rattle.solver_files.specs.Second.{second_of}
use Rattle.solver_files.specs.SecondRows.{tet_rows}
use Rattle.solver_files.specs.SecondTexts.{ele_head, second_ele_text}
use Rattle.solver_files.specs.declared.second_rows.Format.TheVariants.{Tetgen}
use Rattle.solver_files.proofs.Parts.{then_part}
use Rattle.solver_files.proofs.second_files.write_second_ele.Goals as goal

pub returns : goal.returns
returns c =
    let m = second_of c.args.mesh.now in
    let out = c.new-out.result in
    let begun = c.in_ok-put_heading.ensures ∙ (λ i. out ++ (decimal (c.len-count.ensures.count i) ++ c.ele_head.ensures i)) in
    let all = then_part out (decimal _ ++ ele_head m.mesh.marks) c.put_heading.new.out c.put_tet_rows.new.out (tet_rows Tetgen m c.args.first) begun c.in_ok-put_tet_rows.ensures in
    all ∙ ap (λ s. s ++ second_ele_text m c.args.first) c.new-out.ensures
