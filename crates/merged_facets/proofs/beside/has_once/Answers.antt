use Rattle.std.proofs.Common.{refl, sym, ◌∙◌, arith}
use Rattle.incidence.proofs.Polygons.{IsNext}
use Rattle.merged_facets.proofs.Once.{one_more, none_more, counted_same, counted_other, counted_none, counted_all, refused, not_true, not_met}
use Rattle.merged_facets.proofs.beside.has_once.Goals as goal
use Rattle.merged_facets.proofs.beside.has_once.Goals.{then-k-corners, else-k-corners, then-a-b+then-same_ends, then-a-b+else-same_ends+else-not-segments_met, else-a-b}

pub loop-k-preserved : goal.loop-k-preserved
loop-k-preserved c =
    let ps = c.args.points.now in
    let s = c.args.s in
    let polygon = c.args.corners.now in
    let k = c.loop-k.k in
    let next = c.if-k-corners.next in
    let is : IsNext polygon k next = elim c.if-k-corners.branch [
      | then-k-corners w ↦ record { later = λ h. w.next-is; around = λ h. absurd (omega arith) }
      | else-k-corners w ↦ record { later = λ h. absurd (omega arith); around = λ h. w.next-is }
    ] in
    let h = c.loop-k.invariant in
    elim c.if-a-b.branch [
      | then-a-b+then-same_ends w ↦
          counted_same ps s _ polygon k c.loop-k.places c.if-a-b.places h (one_more polygon k next _ _ c.loop-k-test.true is refl refl w.if-a-b.true) (sym w.same_ends.ensures ∙ w.if-same_ends.true) w.places-is
      | then-a-b+else-same_ends+else-not-segments_met w ↦
          counted_other ps s _ polygon k c.loop-k.places c.if-a-b.places h (one_more polygon k next _ _ c.loop-k-test.true is refl refl w.if-a-b.true) (sym w.same_ends.ensures ∙ w.if-same_ends.false)
          (w.if-not-segments_met.ensures.0 refl) w.places-is
      | else-a-b w ↦ counted_none ps s polygon k c.loop-k.places c.if-a-b.places h (none_more polygon k next _ _ c.loop-k-test.true is refl refl w.if-a-b.false) w.places-is
    ]

pub returns-then-not-segments_met : goal.returns-then-not-segments_met
returns-then-not-segments_met c =
    let polygon = c.args.corners.now in
    let k = c.loop-k.k in
    let next = c.if-k-corners.next in
    let is : IsNext polygon k next = elim c.if-k-corners.branch [
      | then-k-corners w ↦ record { later = λ h. w.next-is; around = λ h. absurd (omega arith) }
      | else-k-corners w ↦ record { later = λ h. absurd (omega arith); around = λ h. w.next-is }
    ] in
    refused (λ h. not_met c.args.points.now c.args.s polygon k _ (one_more polygon k next _ _ c.loop-k-test.true is refl refl c.if-a-b.true) (sym c.same_ends.ensures ∙ c.if-same_ends.false)
    (λ m. not_true (c.if-not-segments_met.ensures.1 m)) h.met)

pub returns : goal.returns
returns c = counted_all c.args.points.now c.args.s c.args.corners.now c.loop-k.k c.loop-k.places c.loop-k.invariant (omega arith)
