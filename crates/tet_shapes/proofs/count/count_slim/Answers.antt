use Rattle.std.proofs.Common.{◌+◌, ap, sym, ◌∙◌, arith, Bool}
use Rattle.geo_laws.specs.Delaunay.{corners, IsOn}
use Rattle.geo_laws.specs.declared.tetrahedra.Tet.{Tet}
use Rattle.tet_shapes.specs.Shape.{is_slim}
use Rattle.tet_shapes.proofs.Counts.{all_at, count_yes, count_no}
use Rattle.tet_shapes.proofs.count.count_slim.Goals as goal
use Rattle.tet_shapes.proofs.count.count_slim.Goals.{then-is_slim, else-is_slim}

pub is_slim-requires-clause-on : goal.is_slim-requires-clause-on
is_slim-requires-clause-on c = all_at (IsOn c.args.points.now) c.args.rows.now c.loop-i.i c.at.result c.requires.on (omega arith) c.at.ensures

pub loop-i-preserved : goal.loop-i-preserved
loop-i-preserved c =
    let test : Tet → Bool = λ row. is_slim c.args.bound (corners c.args.points.now row) in
    let is = c.is_slim.ensures in
    elim c.if-is_slim.branch [
      | then-is_slim w ↦
          w.count-is ∙ ap (λ n. n + 1) c.loop-i.invariant
          ∙ sym (count_yes test c.args.rows.now c.loop-i.i c.at.result (omega arith) c.at.ensures (sym is ∙ w.if-is_slim.true))
      | else-is_slim w ↦
          w.count-is ∙ c.loop-i.invariant
          ∙ sym (count_no test c.args.rows.now c.loop-i.i c.at.result (omega arith) c.at.ensures (sym is ∙ w.if-is_slim.false))
    ]
