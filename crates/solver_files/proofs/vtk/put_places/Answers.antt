use Rattle.std.proofs.Common.{[], ◌∷◌, arith}
use Rattle.solver_files.specs.Mesh.{mesh_of, place_text}
use Rattle.solver_files.specs.Vtk.{place_line}
use Rattle.solver_files.proofs.Parts.{next_item, then_part}
use Rattle.solver_files.proofs.vtk.put_places.Goals as goal

pub loop-i-preserved : goal.loop-i-preserved
loop-i-preserved c =
    let m = mesh_of c.args.mesh.now in
    let line = then_part c.loop-i.out (place_text m c.at.result) c.put_place.new.out c.push.new.self (10 ∷ []) c.in_ok-put_place.ensures c.in_ok-push.ensures.ok in
    next_item (place_line m) c.loop-i.i c.args.points.now c.at.result c.loop-i.out _ _ (omega arith) (c.at.ensures c.at.result) line c.loop-i.invariant
