use Rattle.std.proofs.Common.{◌+◌, ap, sym, ◌∙◌, arith, Bool}
use Rattle.geo_laws.specs.Delaunay.{corners, IsOn}
use Rattle.geo_laws.specs.declared.tetrahedra.Tet.{Tet}
use Rattle.tet_shapes.specs.Angle.{is_flat}
use Rattle.tet_shapes.proofs.Counts.{all_at, count_yes, count_no}
use Rattle.tet_shapes.proofs.count.count_flat.Goals as goal
use Rattle.tet_shapes.proofs.count.count_flat.Goals.{then-is_flat, else-is_flat}

pub is_flat-requires : goal.is_flat-requires
is_flat-requires c = all_at (IsOn c.args.points.now) c.args.rows.now c.loop-i.i c.at.result c.requires (omega arith) c.at.ensures

pub loop-i-preserved : goal.loop-i-preserved
loop-i-preserved c =
    let test : Tet → Bool = λ row. is_flat c.args.bound (corners c.args.points.now row) in
    let is = c.is_flat.ensures in
    elim c.if-is_flat.branch [
      | then-is_flat w ↦
          w.count-is ∙ ap (λ n. n + 1) c.loop-i.invariant
          ∙ sym (count_yes test c.args.rows.now c.loop-i.i c.at.result (omega arith) c.at.ensures (sym is ∙ w.if-is_flat.true))
      | else-is_flat w ↦
          w.count-is ∙ c.loop-i.invariant
          ∙ sym (count_no test c.args.rows.now c.loop-i.i c.at.result (omega arith) c.at.ensures (sym is ∙ w.if-is_flat.false))
    ]
