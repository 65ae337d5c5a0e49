use Rattle.std.proofs.Common.{ℕ, ◌++◌, [], ◌∷◌, ap, ◌∙◌, append_assoc}
use Rattle.std.specs.Prelude.{codes}
use Rattle.std.specs.Fmt.{decimal}
use Rattle.solver_files.specs.Mesh.{copies}
use Rattle.solver_files.specs.Second.{middle_text, second_of}
use Rattle.solver_files.specs.SecondTexts.{tail_count}
use Rattle.solver_files.proofs.Parts.{last_part, then_part}
use Rattle.solver_files.proofs.second_files.put_middle_line.Goals as goal

pub returns : goal.returns
returns c =
    let m = second_of c.args.mesh.now in
    let out = c.args.out.now in
    let number = decimal c.args.number in
    let place = middle_text m c.args.edge in
    let zeros = copies (tail_count m) (codes " 0") in
    let two = then_part out number c.put_number.new.out c.push.new.self (32 ∷ []) c.in_ok-put_number.ensures c.in_ok-push.ensures.ok in
    let three = then_part out (number ++ (32 ∷ [])) c.push.new.self c.put_middle_place.new.out place two c.in_ok-put_middle_place.ensures
    ∙ ap (λ s. out ++ s) (append_assoc number (32 ∷ []) place) in
    let tail = c.in_ok-put_copies.ensures ∙ ap (λ (n : ℕ). c.put_middle_place.new.out ++ copies n (codes " 0")) c.tail_count.ensures in
    let four = then_part out (number ++ (32 ∷ place)) c.put_middle_place.new.out c.put_copies.new.out zeros three tail in
    last_part c.push-2.result out (number ++ (32 ∷ place) ++ zeros) c.put_copies.new.out c.push-2.new.self (10 ∷ []) four c.push-2.ensures.ok
