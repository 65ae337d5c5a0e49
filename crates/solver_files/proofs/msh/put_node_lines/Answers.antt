use Rattle.std.proofs.Common.{◌+◌, ◌++◌, [], ◌∷◌, append_assoc, ap, ◌∙◌, arith}
use Rattle.std.specs.Fmt.{decimal}
use Rattle.solver_files.specs.Mesh.{mesh_of, place_text}
use Rattle.solver_files.specs.Msh.{node_line}
use Rattle.solver_files.proofs.Parts.{next_numbered, then_part}
use Rattle.solver_files.proofs.msh.put_node_lines.Goals as goal

pub loop-i-preserved : goal.loop-i-preserved
loop-i-preserved c =
    let m = mesh_of c.args.mesh.now in
    let i = c.loop-i.i in
    let p = c.at.result in
    let number = decimal (c.args.first + i) in
    let place = place_text m p in
    let two = then_part c.loop-i.out number c.put_number.new.out c.push.new.self (32 ∷ []) c.in_ok-put_number.ensures c.in_ok-push.ensures.ok in
    let three = then_part c.loop-i.out (number ++ (32 ∷ [])) c.push.new.self c.put_place.new.out place two c.in_ok-put_place.ensures
    ∙ ap (λ s. c.loop-i.out ++ s) (append_assoc number (32 ∷ []) place) in
    let line = then_part c.loop-i.out (number ++ (32 ∷ place)) c.put_place.new.out c.push-in-loop-i.new.self (10 ∷ []) three c.in_ok-push-2.ensures.ok in
    next_numbered (node_line m) (c.args.first + i) (c.args.first + (i + 1)) i c.args.points.now p c.loop-i.out _ _ (omega arith) (omega arith) (c.at.ensures p) line c.loop-i.invariant
