use Rattle.std.proofs.Common.{◌∙◌}
use Rattle.sign_predicates.proofs.Vectors.{denominator_back, near_back}
use Rattle.hole_carve.proofs.Apart.{weight_above}
use Rattle.hole_carve.proofs.Treed.{quotient_same}
use Rattle.hole_carve.proofs.boxes.box_round.Goals as goal

pub returns : goal.returns
returns c =
    let w = denominator_back c.x.inside.w c.x.invariant.w_is ∙ (λ t. (c.x.view_is t).w) in
    record {
      weight = weight_above _ _ c.x.invariant.w_is (λ t. (c.x.view_is t).w);
      holds = record {
        x = quotient_same c.round_quotient.result _ _ _ _ (near_back c.x.inside.w c.x.inside.x c.x.invariant.w_is c.x.invariant.x_near ∙ (λ t. (c.x.view_is t).x)) w c.round_quotient.ensures;
        y = quotient_same c.round_quotient-2.result _ _ _ _ (near_back c.x.inside.w c.x.inside.y c.x.invariant.w_is c.x.invariant.y_near ∙ (λ t. (c.x.view_is t).y)) w c.round_quotient-2.ensures;
        z = quotient_same c.round_quotient-3.result _ _ _ _ (near_back c.x.inside.w c.x.inside.z c.x.invariant.w_is c.x.invariant.z_near ∙ (λ t. (c.x.view_is t).z)) w c.round_quotient-3.ensures;
      };
    }
