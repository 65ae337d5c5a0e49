use Rattle.std.proofs.Common.{◌∙◌}
use Rattle.sign_predicates.specs.Meeting.{grid_triangle}
use Rattle.sign_predicates.proofs.Vectors.{grid_back}
use Rattle.sign_predicates.proofs.Apart.{apart_x, apart_y, apart_z, apart_at}
use Rattle.sign_predicates.proofs.boxes.boxes_apart.Goals as goal

pub returns-then-apart_along : goal.returns-then-apart_along
returns-then-apart_along c h =
    let i = c.f.invariant in
    let j = c.g.invariant in
    apart_x (grid_triangle c.args.f.now) (grid_triangle c.args.g.now) (apart_at
    (grid_back c.f.inside.0.0.x i.0.0.x_low i.0.0.x_high ∙ (λ u. (c.f.view_is u).a.x))
    (grid_back c.f.inside.0.1.0.x i.0.1.x_low i.0.1.x_high ∙ (λ u. (c.f.view_is u).b.x))
    (grid_back c.f.inside.0.1.1.0.x i.1.x_low i.1.x_high ∙ (λ u. (c.f.view_is u).c.x))
    (grid_back c.g.inside.0.0.x j.0.0.x_low j.0.0.x_high ∙ (λ u. (c.g.view_is u).a.x))
    (grid_back c.g.inside.0.1.0.x j.0.1.x_low j.0.1.x_high ∙ (λ u. (c.g.view_is u).b.x))
    (grid_back c.g.inside.0.1.1.0.x j.1.x_low j.1.x_high ∙ (λ u. (c.g.view_is u).c.x))
    (c.if-apart_along.ensures h))

pub returns-then-apart_along-2 : goal.returns-then-apart_along-2
returns-then-apart_along-2 c h =
    let i = c.f.invariant in
    let j = c.g.invariant in
    apart_y (grid_triangle c.args.f.now) (grid_triangle c.args.g.now) (apart_at
    (grid_back c.f.inside.0.0.y i.0.0.y_low i.0.0.y_high ∙ (λ u. (c.f.view_is u).a.y))
    (grid_back c.f.inside.0.1.0.y i.0.1.y_low i.0.1.y_high ∙ (λ u. (c.f.view_is u).b.y))
    (grid_back c.f.inside.0.1.1.0.y i.1.y_low i.1.y_high ∙ (λ u. (c.f.view_is u).c.y))
    (grid_back c.g.inside.0.0.y j.0.0.y_low j.0.0.y_high ∙ (λ u. (c.g.view_is u).a.y))
    (grid_back c.g.inside.0.1.0.y j.0.1.y_low j.0.1.y_high ∙ (λ u. (c.g.view_is u).b.y))
    (grid_back c.g.inside.0.1.1.0.y j.1.y_low j.1.y_high ∙ (λ u. (c.g.view_is u).c.y))
    (c.if-apart_along-2.ensures h))

pub returns : goal.returns
returns c h =
    let i = c.f.invariant in
    let j = c.g.invariant in
    apart_z (grid_triangle c.args.f.now) (grid_triangle c.args.g.now) (apart_at
    (grid_back c.f.inside.0.0.z i.0.0.z_low i.0.0.z_high ∙ (λ u. (c.f.view_is u).a.z))
    (grid_back c.f.inside.0.1.0.z i.0.1.z_low i.0.1.z_high ∙ (λ u. (c.f.view_is u).b.z))
    (grid_back c.f.inside.0.1.1.0.z i.1.z_low i.1.z_high ∙ (λ u. (c.f.view_is u).c.z))
    (grid_back c.g.inside.0.0.z j.0.0.z_low j.0.0.z_high ∙ (λ u. (c.g.view_is u).a.z))
    (grid_back c.g.inside.0.1.0.z j.0.1.z_low j.0.1.z_high ∙ (λ u. (c.g.view_is u).b.z))
    (grid_back c.g.inside.0.1.1.0.z j.1.z_low j.1.z_high ∙ (λ u. (c.g.view_is u).c.z))
    (c.apart_along-3.ensures h))
