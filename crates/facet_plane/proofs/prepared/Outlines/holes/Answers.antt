use Rattle.std.proofs.Common.{◌+◌, take, subst, sym, ◌∙◌, arith}
use Rattle.facet_plane.specs.Prepared.{AreHoles}
use Rattle.facet_plane.proofs.Rows.{hole_counts, hole_passed}
use Rattle.facet_plane.proofs.prepared.Outlines.holes.Goals as goal
use Rattle.facet_plane.proofs.prepared.Outlines.holes.Goals.{then-not-over+in_ok-push, else-not-over}

pub loop-i-preserved : goal.loop-i-preserved
loop-i-preserved c =
    let o = c.args.self.now in
    let hs = c.args.facet.now.holes in
    elim c.if-not-over.branch [
      | then-not-over+in_ok-push w ↦
          hole_counts o hs c.loop-i.i c.of-hole.result c.loop-i.holes c.if-not-over.holes w.from.result (omega arith) (λ d. c.at.ensures d ∙ sym c.of-hole.ensures) c.loop-i.invariant
          (sym c.in_ok-over.ensures.met ∙ w.if-not-over.true) (w.from.ensures ∙ c.in_ok-over.ensures.round w.if-not-over.true) (w.holes-is ∙ w.in_ok-push.ensures.ok)
      | else-not-over w ↦
          subst (AreHoles o (take (c.loop-i.i + 1) hs)) (sym w.holes-is)
          (hole_passed o hs c.loop-i.i c.of-hole.result c.loop-i.holes (omega arith) (λ d. c.at.ensures d ∙ sym c.of-hole.ensures) c.loop-i.invariant (sym c.in_ok-over.ensures.met ∙ w.if-not-over.false))
    ]
