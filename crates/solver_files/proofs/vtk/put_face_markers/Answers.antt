use Rattle.std.proofs.Common.{◌≡◌, ◌++◌, [], ◌∷◌, arith, rules}
use Rattle.std.specs.Fmt.{signed_decimal}
use Rattle.solver_files.specs.Vtk.{marker_line}
use Rattle.solver_files.proofs.Parts.{next_item, then_part}
use Rattle.solver_files.proofs.vtk.put_face_markers.Goals as goal

pub loop-i-preserved : goal.loop-i-preserved
loop-i-preserved c =
    let written : c.put_signed.new.out ≡ c.loop-i.out ++ signed_decimal c.at.result.marker = search rules in
    let line = then_part c.loop-i.out (signed_decimal c.at.result.marker) c.put_signed.new.out c.push.new.self (10 ∷ []) written c.in_ok-push.ensures.ok in
    next_item marker_line c.loop-i.i c.args.faces.now c.at.result c.loop-i.out _ _ (omega arith) (c.at.ensures c.at.result) line c.loop-i.invariant
