use Rattle.std.proofs.Common.{◌+◌, ◌++◌, [], ◌∷◌, append_assoc, ap, ◌∙◌, arith}
use Rattle.std.specs.Fmt.{decimal}
use Rattle.solver_files.specs.Second.{middle_text, second_of}
use Rattle.solver_files.specs.SecondTexts.{middle_node}
use Rattle.solver_files.proofs.Parts.{next_numbered, then_part}
use Rattle.solver_files.proofs.second_msh.put_middle_nodes.Goals as goal

pub loop-i-preserved : goal.loop-i-preserved
loop-i-preserved c =
    let m = second_of c.args.mesh.now in
    let i = c.loop-i.i in
    let s = c.at.result in
    let start = c.point_count.result + 1 in
    let number = decimal (start + i) in
    let place = middle_text m s in
    let two = then_part c.loop-i.out number c.put_number.new.out c.push.new.self (32 ∷ []) c.in_ok-put_number.ensures c.in_ok-push.ensures.ok in
    let three = then_part c.loop-i.out (number ++ (32 ∷ [])) c.push.new.self c.put_middle_place.new.out place two c.in_ok-put_middle_place.ensures
    ∙ ap (λ s. c.loop-i.out ++ s) (append_assoc number (32 ∷ []) place) in
    let line = then_part c.loop-i.out (number ++ (32 ∷ place)) c.put_middle_place.new.out c.push-in-loop-i.new.self (10 ∷ []) three c.in_ok-push-2.ensures.ok in
    next_numbered (middle_node m) (start + i) (start + (i + 1)) i c.args.mesh.now.sides.now s c.loop-i.out _ _ (omega arith) (omega arith) (c.at.ensures s) line c.loop-i.invariant
