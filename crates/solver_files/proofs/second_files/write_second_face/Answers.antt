use Rattle.std.proofs.Common.{ℕ, ◌++◌, ap, ◌∙◌, length}
use Rattle.std.specs.Prelude.{codes}
use Rattle.std.specs.Fmt.{decimal}
use Rattle.solver_files.specs.Second.{second_of}
use Rattle.solver_files.specs.SecondRows.{face_rows}
use Rattle.solver_files.specs.SecondTexts.{second_face_text}
use Rattle.solver_files.specs.declared.second_rows.Format.TheVariants.{Tetgen}
use Rattle.solver_files.proofs.Parts.{then_part}
use Rattle.solver_files.proofs.second_files.write_second_face.Goals as goal

pub returns : goal.returns
returns c =
    let m = second_of c.args.mesh.now in
    let out = c.new-out.result in
    let begun = c.in_ok-put_heading.ensures ∙ ap (λ (n : ℕ). out ++ (decimal n ++ codes " 1\n")) c.len.ensures.count in
    let all = then_part out (decimal (length m.mesh.faces) ++ codes " 1\n") c.put_heading.new.out c.put_face_rows.new.out (face_rows Tetgen m c.args.first) begun c.in_ok-put_face_rows.ensures in
    all ∙ ap (λ s. s ++ second_face_text m c.args.first) c.new-out.ensures
