use Rattle.std.proofs.Common.{◌∙◌, ◌-ℤ◌, ◌*ℤ◌, w64}
use Rattle.exact_algebra.proofs.Size.{read}
use Rattle.sign_predicates.specs.Orientation.{det}
use Rattle.sign_predicates.proofs.Vectors.{orient_rational_is, grid_size_back, grid_back, denominator_back, denominator_size_back, near_back}
use mir.Syntax.{w128}
use Rattle.sign_predicates.proofs.orientation.orient_rat_sum.Goals as goal

pub scaled_difference-requires-3-clause-a_small : goal.scaled_difference-requires-3-clause-a_small
scaled_difference-requires-3-clause-a_small c = grid_size_back c.a.inside.z c.a.invariant.z_low c.a.invariant.z_high

pub scaled_difference-requires-3-clause-w_small : goal.scaled_difference-requires-3-clause-w_small
scaled_difference-requires-3-clause-w_small c = denominator_size_back c.x.inside.w c.x.invariant.w_is

pub returns : goal.returns
returns c =
    let a = c.a.inside in
    let x = c.x.inside in
    let g = c.a.invariant in
    let n = c.x.invariant in
    let w = denominator_back x.w n.w_is in
    let one = read w64 c.scaled_difference.result c.scaled_difference.type_inv ∙ c.scaled_difference.ensures.value
    ∙ (λ t. near_back x.w x.x n.w_is n.x_near t -ℤ grid_back a.x g.x_low g.x_high t *ℤ w t)
    ∙ (λ t. (c.x.view_is t).x -ℤ (c.a.view_is t).x *ℤ (c.x.view_is t).w) in
    let two = read w64 c.scaled_difference-2.result c.scaled_difference-2.type_inv ∙ c.scaled_difference-2.ensures.value
    ∙ (λ t. near_back x.w x.y n.w_is n.y_near t -ℤ grid_back a.y g.y_low g.y_high t *ℤ w t)
    ∙ (λ t. (c.x.view_is t).y -ℤ (c.a.view_is t).y *ℤ (c.x.view_is t).w) in
    let three = read w64 c.scaled_difference-3.result c.scaled_difference-3.type_inv ∙ c.scaled_difference-3.ensures.value
    ∙ (λ t. near_back x.w x.z n.w_is n.z_near t -ℤ grid_back a.z g.z_low g.z_high t *ℤ w t)
    ∙ (λ t. (c.x.view_is t).z -ℤ (c.a.view_is t).z *ℤ (c.x.view_is t).w) in
    read w128 c.det_with.result c.det_with.type_inv ∙ c.det_with.ensures
    ∙ (λ t. det (c.from_to.ensures t) (c.from_to-2.ensures t) (record { x = one t; y = two t; z = three t }))
    ∙ orient_rational_is c.args.a c.args.b c.args.c c.args.x
