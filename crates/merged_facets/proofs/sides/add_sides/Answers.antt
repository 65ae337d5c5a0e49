use Rattle.std.proofs.Common.{◌++◌, map, refl, ap, ◌∙◌, arith}
use Rattle.merged_facets.specs.FacetSides.{facet_side}
use Rattle.incidence.proofs.Polygons.{IsNext, all_sides}
use Rattle.merged_facets.proofs.FacetSides.{side_added, side_passed}
use Rattle.merged_facets.proofs.sides.add_sides.Goals as goal
use Rattle.merged_facets.proofs.sides.add_sides.Goals.{then-k-corners, else-k-corners, then-a-b+in_ok-push, else-a-b}

pub loop-k-preserved : goal.loop-k-preserved
loop-k-preserved c =
    let polygon = c.args.corners.now in
    let k = c.loop-k.k in
    let next = c.if-k-corners.next in
    let is : IsNext polygon k next = elim c.if-k-corners.branch [
      | then-k-corners w ↦ record { later = λ h. w.next-is; around = λ h. absurd (omega arith) }
      | else-k-corners w ↦ record { later = λ h. absurd (omega arith); around = λ h. w.next-is }
    ] in
    let old = c.loop-k.list in
    elim c.if-a-b.branch [
      | then-a-b+in_ok-push w ↦ side_added c.args.facet c.args.list.now old c.if-a-b.list polygon k next _ _ c.loop-k-test.true is refl refl w.if-a-b.true c.loop-k.invariant (w.list-is ∙ w.in_ok-push.ensures.ok)
      | else-a-b w ↦ w.list-is ∙ side_passed c.args.facet c.args.list.now old polygon k next _ _ c.loop-k-test.true is refl refl w.if-a-b.false c.loop-k.invariant
    ]

pub returns : goal.returns
returns c = c.loop-k.invariant ∙ ap (λ ps. c.args.list.now ++ map (facet_side c.args.facet) ps) (all_sides c.args.corners.now c.loop-k.k (omega arith))
