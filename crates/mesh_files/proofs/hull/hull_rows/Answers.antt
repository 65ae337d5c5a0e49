use Rattle.std.proofs.Common.{◌≤◌, map, length, ap, sym, subst, ◌∙◌, arith}
use Rattle.std.specs.Prelude.{false, []}
use Rattle.std.proofs.lemmas.List.{take_all}
use Rattle.mesh_files.specs.FaceRows.{AreFaceRowsOf, hull_row}
use Rattle.mesh_files.proofs.OnHull.{rows_of_hull}
use Rattle.mesh_files.proofs.hull.hull_rows.Goals as goal

pub returns : goal.returns
returns c ps complex rows up are =
    let hull = c.args.hull.now in
    let items = c.as_slice-face-items.ensures in
    let all : length hull ≤ c.loop-face.face-index = omega (arith, c.loop-face-test.false, ap length items) in
    let is = c.loop-face.invariant ∙ ap (map hull_row) (take_all c.loop-face.face-index hull all) in
    subst (λ found. AreFaceRowsOf ps rows complex [] false found) (sym is) (rows_of_hull rows hull ps complex up are)
