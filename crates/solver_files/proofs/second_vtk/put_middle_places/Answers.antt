use Rattle.std.proofs.Common.{[], ◌∷◌, arith}
use Rattle.solver_files.specs.Second.{middle_text, second_of}
use Rattle.solver_files.specs.SecondTexts.{middle_place_line}
use Rattle.solver_files.proofs.Parts.{next_item, then_part}
use Rattle.solver_files.proofs.second_vtk.put_middle_places.Goals as goal

pub loop-i-preserved : goal.loop-i-preserved
loop-i-preserved c =
    let m = second_of c.args.mesh.now in
    let s = c.at.result in
    let line = then_part c.loop-i.out (middle_text m s) c.put_middle_place.new.out c.push.new.self (10 ∷ []) c.in_ok-put_middle_place.ensures c.in_ok-push.ensures.ok in
    next_item (middle_place_line m) c.loop-i.i c.args.mesh.now.sides.now s c.loop-i.out _ _ (omega arith) (c.at.ensures s) line c.loop-i.invariant
