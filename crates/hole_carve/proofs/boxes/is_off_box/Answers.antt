use Rattle.std.proofs.Common.{◌*ℤ◌, ◌∙◌}
use Rattle.sign_predicates.proofs.Vectors.{grid_back, denominator_back, near_back}
use Rattle.hole_carve.proofs.Apart.{apart_same, off_x, off_y, off_z, weight_above}
use Rattle.hole_carve.proofs.boxes.is_off_box.Goals as goal

pub returns-then-are_apart_over : goal.returns-then-are_apart_over
returns-then-are_apart_over c e =
    let g = c.t.invariant in
    let w = denominator_back c.x.inside.w c.x.invariant.w_is ∙ (λ t. (c.x.view_is t).w) in
    off_x c.args.t.now c.args.x c.requires (weight_above _ _ c.x.invariant.w_is (λ t. (c.x.view_is t).w))
    (apart_same _ _ _ _ _ _ _ _ _ _
    (λ t. (grid_back c.t.inside.0.0.x g.0.0.0.x_low g.0.0.0.x_high ∙ (λ u. (c.t.view_is u).a.x)) t *ℤ w t)
    (λ t. (grid_back c.t.inside.0.1.0.x g.0.0.1.x_low g.0.0.1.x_high ∙ (λ u. (c.t.view_is u).b.x)) t *ℤ w t)
    (λ t. (grid_back c.t.inside.0.1.1.0.x g.0.1.x_low g.0.1.x_high ∙ (λ u. (c.t.view_is u).c.x)) t *ℤ w t)
    (λ t. (grid_back c.t.inside.0.1.1.1.0.x g.1.x_low g.1.x_high ∙ (λ u. (c.t.view_is u).d.x)) t *ℤ w t)
    (near_back c.x.inside.w c.x.inside.x c.x.invariant.w_is c.x.invariant.x_near ∙ (λ t. (c.x.view_is t).x))
    (c.if-are_apart_over.ensures e))

pub returns-then-are_apart_over-2 : goal.returns-then-are_apart_over-2
returns-then-are_apart_over-2 c e =
    let g = c.t.invariant in
    let w = denominator_back c.x.inside.w c.x.invariant.w_is ∙ (λ t. (c.x.view_is t).w) in
    off_y c.args.t.now c.args.x c.requires (weight_above _ _ c.x.invariant.w_is (λ t. (c.x.view_is t).w))
    (apart_same _ _ _ _ _ _ _ _ _ _
    (λ t. (grid_back c.t.inside.0.0.y g.0.0.0.y_low g.0.0.0.y_high ∙ (λ u. (c.t.view_is u).a.y)) t *ℤ w t)
    (λ t. (grid_back c.t.inside.0.1.0.y g.0.0.1.y_low g.0.0.1.y_high ∙ (λ u. (c.t.view_is u).b.y)) t *ℤ w t)
    (λ t. (grid_back c.t.inside.0.1.1.0.y g.0.1.y_low g.0.1.y_high ∙ (λ u. (c.t.view_is u).c.y)) t *ℤ w t)
    (λ t. (grid_back c.t.inside.0.1.1.1.0.y g.1.y_low g.1.y_high ∙ (λ u. (c.t.view_is u).d.y)) t *ℤ w t)
    (near_back c.x.inside.w c.x.inside.y c.x.invariant.w_is c.x.invariant.y_near ∙ (λ t. (c.x.view_is t).y))
    (c.if-are_apart_over-2.ensures e))

pub returns : goal.returns
returns c e =
    let g = c.t.invariant in
    let w = denominator_back c.x.inside.w c.x.invariant.w_is ∙ (λ t. (c.x.view_is t).w) in
    off_z c.args.t.now c.args.x c.requires (weight_above _ _ c.x.invariant.w_is (λ t. (c.x.view_is t).w))
    (apart_same _ _ _ _ _ _ _ _ _ _
    (λ t. (grid_back c.t.inside.0.0.z g.0.0.0.z_low g.0.0.0.z_high ∙ (λ u. (c.t.view_is u).a.z)) t *ℤ w t)
    (λ t. (grid_back c.t.inside.0.1.0.z g.0.0.1.z_low g.0.0.1.z_high ∙ (λ u. (c.t.view_is u).b.z)) t *ℤ w t)
    (λ t. (grid_back c.t.inside.0.1.1.0.z g.0.1.z_low g.0.1.z_high ∙ (λ u. (c.t.view_is u).c.z)) t *ℤ w t)
    (λ t. (grid_back c.t.inside.0.1.1.1.0.z g.1.z_low g.1.z_high ∙ (λ u. (c.t.view_is u).d.z)) t *ℤ w t)
    (near_back c.x.inside.w c.x.inside.z c.x.invariant.w_is c.x.invariant.z_near ∙ (λ t. (c.x.view_is t).z))
    (c.are_apart_over-3.ensures e))
