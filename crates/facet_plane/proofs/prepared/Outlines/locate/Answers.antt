use Rattle.std.proofs.Common.{◌+◌, ◌++◌, drop, ap, sym, ◌∙◌, arith}
use Rattle.facet_plane.specs.Axes.{axis_is}
use Rattle.facet_plane.specs.Outline.{IsBlocked}
use Rattle.facet_plane.specs.Prepared.{shape, shape_meets, shape_round, passing_places}
use Rattle.facet_plane.proofs.Around.{any_hit, any_miss, any_past}
use Rattle.facet_plane.proofs.Rows.{all_here, ahead_of, met_apart, no_outline, places_apart, places_hit, places_miss, places_past}
use Rattle.facet_plane.proofs.prepared.Outlines.locate.Goals as goal
use Rattle.facet_plane.proofs.prepared.Outlines.locate.Goals.{then-is_round+in_ok-push, else-is_round}

pub loop-q-smaller-then-is_apart : goal.loop-q-smaller-then-is_apart
loop-q-smaller-then-is_apart c =
    let k = ahead_of c.args.self.now c.loop-q.q c.at-block.result c.requires (omega arith) c.at-block.ensures in
    let l = k.0 in
    let m = k.1 in
    omega arith

pub loop-q-preserved-then-is_apart : goal.loop-q-preserved-then-is_apart
loop-q-preserved-then-is_apart c = record {
  met = sym (met_apart c.args.reach c.args.x c.args.self.now c.loop-q.q c.at-block.result no_outline c.requires (omega arith) c.at-block.ensures (c.is_apart.ensures c.if-is_apart.true))
      ∙ c.loop-q.invariant.met;
  round = ap (λ ps. c.loop-q.places.items ++ ps) (places_apart c.args.x c.args.self.now c.loop-q.q c.at-block.result no_outline c.requires (omega arith) c.at-block.ensures (c.is_apart.ensures c.if-is_apart.true))
      ∙ c.loop-q.invariant.round;
}

pub is_met-requires : goal.is_met-requires
is_met-requires c = all_here IsBlocked c.args.self.now.each c.loop-q.q c.get-outline.result.now c.requires.each (omega arith) c.get-outline.ensures

pub returns-then-is_met : goal.returns-then-is_met
returns-then-is_met c = record {
  met = sym (any_hit (λ o. shape_meets c.args.reach (axis_is c.args.self.now.axis) c.args.x (shape o)) c.args.self.now.each c.loop-q.q c.get-outline.result.now (omega arith) c.get-outline.ensures (sym c.is_met.ensures ∙ c.if-is_met.true))
      ∙ c.loop-q.invariant.met;
  round = λ e. cc;
}

pub is_round-requires : goal.is_round-requires
is_round-requires c = all_here IsBlocked c.args.self.now.each c.loop-q.q c.get-outline.result.now c.requires.each (omega arith) c.get-outline.ensures

pub loop-q-preserved : goal.loop-q-preserved
loop-q-preserved c =
    let q = c.loop-q.q in
    let each = c.args.self.now.each in
    record {
      met = sym (any_miss (λ o. shape_meets c.args.reach (axis_is c.args.self.now.axis) c.args.x (shape o)) each q c.get-outline.result.now (omega arith) c.get-outline.ensures (sym c.is_met.ensures ∙ c.if-is_met.false))
          ∙ c.loop-q.invariant.met;
      round = elim c.if-is_round.branch [
        | then-is_round+in_ok-push w ↦
            places_hit (λ o. shape_round (axis_is c.args.self.now.axis) c.args.x (shape o)) each q c.get-outline.result.now c.loop-q.places.items _ (omega arith) c.get-outline.ensures
            (sym c.is_round.ensures ∙ w.if-is_round.true) (ap (λ v. v.items) w.places-is ∙ w.in_ok-push.ensures.items)
            ∙ c.loop-q.invariant.round
        | else-is_round w ↦
            ap (λ v. v.items ++ passing_places (λ o. shape_round (axis_is c.args.self.now.axis) c.args.x (shape o)) (q + 1) (drop (q + 1) each)) w.places-is
            ∙ ap (λ ps. c.loop-q.places.items ++ ps) (places_miss (λ o. shape_round (axis_is c.args.self.now.axis) c.args.x (shape o)) each q c.get-outline.result.now (omega arith) c.get-outline.ensures (sym c.is_round.ensures ∙ w.if-is_round.false))
            ∙ c.loop-q.invariant.round
      ];
    }

pub returns : goal.returns
returns c = record {
  met = sym (any_past (λ o. shape_meets c.args.reach (axis_is c.args.self.now.axis) c.args.x (shape o)) c.args.self.now.each c.loop-q.q (omega arith)) ∙ c.loop-q.invariant.met;
  round = λ e. places_past (λ o. shape_round (axis_is c.args.self.now.axis) c.args.x (shape o)) c.args.self.now.each c.loop-q.q c.loop-q.places.items (omega arith) ∙ c.loop-q.invariant.round;
}
