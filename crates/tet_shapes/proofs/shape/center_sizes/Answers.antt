use Rattle.std.proofs.Common.{◌≡◌, ◌^◌, ◌≤◌, ℤ, w64, to_z, of_z, unsigned_abs, ◌∙◌}
use Rattle.exact_algebra.proofs.Size.{read, back}
use Rattle.sign_predicates.specs.Sphere.{square_length}
use Rattle.sign_predicates.specs.Reach.{combined, pull}
use Rattle.sign_predicates.proofs.Vectors.{square_back}
use mir.Syntax.{w128}
use Rattle.tet_shapes.proofs.shape.center_sizes.Goals as goal

normal_back : (z : ℤ) → unsigned_abs z ≤ 2 ^ 61 → to_z w64 (of_z w64 z) ≡ z
normal_back z h = back w64 (2 ^ 61) z tt h

pub returns-clause-value : goal.returns-clause-value
unfolding pull
returns-clause-value c =
    let k = c.square_length-k.ensures in
    let m = c.square_length-m.ensures in
    let n = c.square_length-n.ensures in
    let u = c.u.inside in
    let v = c.v.inside in
    let w = c.w.inside in
    let kb = square_back c.square_length-k.result k.size ∙ k.value in
    let mb = square_back c.square_length-m.result m.size ∙ m.value in
    let nb = square_back c.square_length-n.result n.size ∙ n.value in
    let one = read w128 c.combined.result c.combined.type_inv ∙ c.combined.ensures.value in
    let two = read w128 c.combined-2.result c.combined-2.type_inv ∙ c.combined-2.ensures.value in
    let three = read w128 c.combined-3.result c.combined-3.type_inv ∙ c.combined-3.ensures.value in
    let ux = normal_back u.x c.u.invariant.x_small in
    let uy = normal_back u.y c.u.invariant.y_small in
    let uz = normal_back u.z c.u.invariant.z_small in
    let vx = normal_back v.x c.v.invariant.x_small in
    let vy = normal_back v.y c.v.invariant.y_small in
    let vz = normal_back v.z c.v.invariant.z_small in
    let wx = normal_back w.x c.w.invariant.x_small in
    let wy = normal_back w.y c.w.invariant.y_small in
    let wz = normal_back w.z c.w.invariant.z_small in
    let p = c.u.view_is ∙ c.cross-u.ensures in
    let q = c.v.view_is ∙ c.cross-v.ensures in
    let r = c.w.view_is ∙ c.cross-w.ensures in
    let kk = square_length c.args.b in
    let mm = square_length c.args.c in
    let nn = square_length c.args.d in
    c.sizes_of.ensures.value
    ∙ (λ t. square_length (record { x = one t; y = two t; z = three t }))
    ∙ (λ t. square_length (record {
      x = combined (kb t) (ux t) (mb t) (vx t) (nb t) (wx t);
      y = combined (kb t) (uy t) (mb t) (vy t) (nb t) (wy t);
      z = combined (kb t) (uz t) (mb t) (vz t) (nb t) (wz t);
    }))
    ∙ (λ t. square_length (record {
      x = combined kk (p t).x mm (q t).x nn (r t).x;
      y = combined kk (p t).y mm (q t).y nn (r t).y;
      z = combined kk (p t).z mm (q t).z nn (r t).z;
    }))
