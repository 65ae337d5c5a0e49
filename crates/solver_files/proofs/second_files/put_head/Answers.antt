use Rattle.std.proofs.Common.{◌≡◌, ℕ, ◌++◌, sym, ap, subst, ◌∙◌, append_assoc}
use Rattle.std.specs.Prelude.{codes, OnOk}
use Rattle.std.specs.Fmt.{decimal}
use Rattle.solver_files.specs.Second.{second_count, second_of}
use Rattle.solver_files.proofs.Parts.{last_part, then_part}
use Rattle.solver_files.proofs.second_files.put_head.Goals as goal

pub returns : goal.returns
returns c =
    let m = second_of c.args.mesh.now in
    let out = c.args.out.now in
    let one = decimal (second_count m) ++ codes " 3 " in
    let each = decimal m.mesh.table.attribute_count in
    let count = c.in_ok-put_heading.ensures ∙ ap (λ (n : ℕ). out ++ (decimal n ++ codes " 3 ")) c.count.ensures in
    let attributes = c.in_ok-put_heading-2.ensures ∙ ap (λ (n : ℕ). c.put_heading.new.out ++ (decimal n ++ codes " ")) c.from.ensures in
    let two = then_part out one c.put_heading.new.out c.put_heading-2.new.out (each ++ codes " ") count attributes ∙ ap (λ s. out ++ s) (sym (append_assoc one each (codes " "))) in
    let marks = subst (λ (n : ℕ). OnOk c.put_heading-3.result (c.put_heading-3.new.out ≡ c.put_heading-2.new.out ++ (decimal n ++ codes "\n"))) (c.from-2.ensures ∙ c.mark_count.ensures.value) c.put_heading-3.ensures in
    last_part c.put_heading-3.result out (one ++ each ++ codes " ") c.put_heading-2.new.out c.put_heading-3.new.out _ two marks
