use Rattle.std.proofs.Common.{refl, ap, sym, ◌∙◌, arith}
use Rattle.std.specs.Prelude.{filter, not}
use Rattle.incidence.specs.Found.{with_pieces}
use Rattle.incidence.proofs.Polygons.{IsNext, all_sides}
use Rattle.merged_facets.specs.Segments.{is_outer}
use Rattle.merged_facets.proofs.Outer.{outer_put, outer_skip, outer_none}
use Rattle.merged_facets.proofs.segments.put_outer_sides.Goals as goal
use Rattle.merged_facets.proofs.segments.put_outer_sides.Goals.{then-k-polygon, else-k-polygon, then-a-b+then-not-is_inner+in_ok-put, then-a-b+else-not-is_inner, else-a-b}

pub loop-k-preserved : goal.loop-k-preserved
loop-k-preserved c =
    let polygon = c.args.polygon.now in
    let k = c.loop-k.k in
    let next = c.if-k-polygon.next in
    let is : IsNext polygon k next = elim c.if-k-polygon.branch [
      | then-k-polygon w ↦ record { later = λ h. w.next-is; around = λ h. absurd (omega arith) }
      | else-k-polygon w ↦ record { later = λ h. absurd (omega arith); around = λ h. w.next-is }
    ] in
    let keep = is_outer c.args.merging.now c.args.facet in
    let start = c.args.set.now in
    let old = c.loop-k.set in
    elim c.if-a-b.branch [
      | then-a-b+then-not-is_inner+in_ok-put w ↦
          outer_put keep start old c.if-a-b.set polygon k next _ _ c.loop-k-test.true is refl refl w.if-a-b.true (ap not (sym w.if-not-is_inner.ensures)) c.loop-k.invariant (w.set-is ∙ w.in_ok-put.ensures.ok)
      | then-a-b+else-not-is_inner w ↦
          w.set-is ∙ outer_skip keep start old polygon k next _ _ c.loop-k-test.true is refl refl w.if-a-b.true (ap not (sym w.if-not-is_inner.ensures)) c.loop-k.invariant
      | else-a-b w ↦ w.set-is ∙ outer_none keep start old polygon k next _ _ c.loop-k-test.true is refl refl w.if-a-b.false c.loop-k.invariant
    ]

pub returns : goal.returns
returns c =
    c.loop-k.invariant
    ∙ ap (λ ps. with_pieces c.args.set.now (filter (is_outer c.args.merging.now c.args.facet) ps)) (all_sides c.args.polygon.now c.loop-k.k (omega arith))
