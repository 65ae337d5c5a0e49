use Rattle.std.proofs.Common.{ℕ, ◌+◌, ap, sym, ◌∙◌, arith, Bool}
use Rattle.geo_laws.specs.Delaunay.{corners, IsOn}
use Rattle.geo_laws.specs.declared.tetrahedra.Tet.{Tet}
use Rattle.tet_shapes.specs.Bounds.{is_over, mark_at, most_of}
use Rattle.tet_shapes.proofs.Counts.{all_at, numbered_yes, numbered_no, numbered_all}
use Rattle.tet_shapes.proofs.count.count_large.Goals as goal
use Rattle.tet_shapes.proofs.count.count_large.Goals.{then-is_over, else-is_over}

pub is_over-requires : goal.is_over-requires
is_over-requires c = all_at (IsOn c.args.points.now) c.args.rows.now c.loop-i.i c.at.result c.requires (omega arith) c.at.ensures

pub loop-i-preserved : goal.loop-i-preserved
loop-i-preserved c =
    let test : ℕ × Tet → Bool = λ r. is_over (most_of c.args.bounds.now (mark_at c.args.marks.now r.0)) (corners c.args.points.now r.1) in
    let most = c.most_of.ensures ∙ ap (most_of c.args.bounds.now) c.mark_at.ensures in
    let is = c.is_over.ensures ∙ ap (λ m. is_over m (corners c.args.points.now c.at.result)) most in
    elim c.if-is_over.branch [
      | then-is_over w ↦
          w.count-is ∙ ap (λ n. n + 1) c.loop-i.invariant
          ∙ sym (numbered_yes test c.args.rows.now c.loop-i.i c.at.result (omega arith) c.at.ensures (sym is ∙ w.if-is_over.true))
      | else-is_over w ↦
          w.count-is ∙ c.loop-i.invariant
          ∙ sym (numbered_no test c.args.rows.now c.loop-i.i c.at.result (omega arith) c.at.ensures (sym is ∙ w.if-is_over.false))
    ]

pub returns : goal.returns
returns c =
    let test : ℕ × Tet → Bool = λ r. is_over (most_of c.args.bounds.now (mark_at c.args.marks.now r.0)) (corners c.args.points.now r.1) in
    c.loop-i.invariant ∙ numbered_all test c.args.rows.now c.loop-i.i (omega (arith, c.loop-i.auto.i-end, c.loop-i-test.false, c.len-i-end.ensures.count))
