use Rattle.std.proofs.Common.{◌≡◌, ◌∙◌, sym, ap, arith}
use Rattle.grid_coords.specs.Origins.{if_some, middle_point, low_corner, high_corner, reach}
use Rattle.grid_coords.proofs.Origins.{origin_none, origin_some, at_zero, at_other}
use Rattle.grid_coords.proofs.origin.origin_of.Goals as goal

pub returns-then-is_empty-clause-value : goal.returns-then-is_empty-clause-value
returns-then-is_empty-clause-value c = sym (origin_none c.args.points.now (search arith))

pub returns-then-reach-eq0-clause-value : goal.returns-then-reach-eq0-clause-value
returns-then-reach-eq0-clause-value c =
    let ps = c.args.points.now in
    let middle = c.middle_point-middle.ensures.value ∙ (λ j. middle_point (c.extent_of-extent.ensures.low j) (c.extent_of-extent.ensures.high j)) ∙ (λ j. middle_point (low_corner (c.whole_point-first.ensures.value j) ps) (high_corner (c.whole_point-first.ensures.value j) ps)) in
    let zero : reach c.middle_point-middle.result ≡ 0 = sym c.reach.ensures.value ∙ (omega arith) in
    sym (origin_some ps c.index-points-0.result (search arith) c.index-points-0.is ∙ sym (ap if_some middle) ∙ at_zero c.middle_point-middle.result zero)

pub returns-clause-value : goal.returns-clause-value
returns-clause-value c =
    let ps = c.args.points.now in
    let middle = c.middle_point-middle.ensures.value ∙ (λ j. middle_point (c.extent_of-extent.ensures.low j) (c.extent_of-extent.ensures.high j)) ∙ (λ j. middle_point (low_corner (c.whole_point-first.ensures.value j) ps) (high_corner (c.whole_point-first.ensures.value j) ps)) in
    sym (origin_some ps c.index-points-0.result (search arith) c.index-points-0.is ∙ sym (ap if_some middle) ∙ at_other c.middle_point-middle.result (λ zero. absurd (omega (arith, c.reach.ensures.value))))
