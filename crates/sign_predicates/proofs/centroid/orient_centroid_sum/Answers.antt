use Rattle.std.proofs.Common.{◌∙◌, pos, ◌+ℤ◌, ◌-ℤ◌, ◌*ℤ◌, w64}
use Rattle.exact_algebra.proofs.Size.{read}
use Rattle.sign_predicates.specs.Orientation.{det}
use Rattle.sign_predicates.specs.Centroid.{centroid}
use Rattle.sign_predicates.proofs.Vectors.{orient_rational_is, grid_back}
use mir.Syntax.{w128}
use Rattle.sign_predicates.proofs.centroid.orient_centroid_sum.Goals as goal

pub returns : goal.returns
returns c =
    let a = c.a.inside in
    let p = c.p.inside in
    let q = c.q.inside in
    let r = c.r.inside in
    let s = c.s.inside in
    let ga = c.a.invariant in
    let gp = c.p.invariant in
    let gq = c.q.invariant in
    let gr = c.r.invariant in
    let gs = c.s.invariant in
    let one = read w64 c.four_times.result c.four_times.type_inv ∙ c.four_times.ensures.value
    ∙ (λ t. grid_back p.x gp.x_low gp.x_high t +ℤ grid_back q.x gq.x_low gq.x_high t +ℤ grid_back r.x gr.x_low gr.x_high t +ℤ grid_back s.x gs.x_low gs.x_high t -ℤ grid_back a.x ga.x_low ga.x_high t *ℤ pos 4)
    ∙ (λ t. (c.p.view_is t).x +ℤ (c.q.view_is t).x +ℤ (c.r.view_is t).x +ℤ (c.s.view_is t).x -ℤ (c.a.view_is t).x *ℤ pos 4) in
    let two = read w64 c.four_times-2.result c.four_times-2.type_inv ∙ c.four_times-2.ensures.value
    ∙ (λ t. grid_back p.y gp.y_low gp.y_high t +ℤ grid_back q.y gq.y_low gq.y_high t +ℤ grid_back r.y gr.y_low gr.y_high t +ℤ grid_back s.y gs.y_low gs.y_high t -ℤ grid_back a.y ga.y_low ga.y_high t *ℤ pos 4)
    ∙ (λ t. (c.p.view_is t).y +ℤ (c.q.view_is t).y +ℤ (c.r.view_is t).y +ℤ (c.s.view_is t).y -ℤ (c.a.view_is t).y *ℤ pos 4) in
    let three = read w64 c.four_times-3.result c.four_times-3.type_inv ∙ c.four_times-3.ensures.value
    ∙ (λ t. grid_back p.z gp.z_low gp.z_high t +ℤ grid_back q.z gq.z_low gq.z_high t +ℤ grid_back r.z gr.z_low gr.z_high t +ℤ grid_back s.z gs.z_low gs.z_high t -ℤ grid_back a.z ga.z_low ga.z_high t *ℤ pos 4)
    ∙ (λ t. (c.p.view_is t).z +ℤ (c.q.view_is t).z +ℤ (c.r.view_is t).z +ℤ (c.s.view_is t).z -ℤ (c.a.view_is t).z *ℤ pos 4) in
    read w128 c.det_with.result c.det_with.type_inv ∙ c.det_with.ensures
    ∙ (λ t. det (c.from_to.ensures t) (c.from_to-2.ensures t) (record { x = one t; y = two t; z = three t }))
    ∙ orient_rational_is c.args.a c.args.b c.args.c (centroid c.args.t.now)
