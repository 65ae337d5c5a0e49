use Rattle.std.proofs.Common.{◌∙◌, ◌≤◌, ◌^◌, ◌*◌, w64, unsigned_abs, ap, sym, subst, arith, ℤ}
use Rattle.exact_algebra.proofs.Size.{read, back}
use Rattle.sign_predicates.specs.Point.{Point}
use Rattle.sign_predicates.proofs.Products.{det_along_third}
use Rattle.sign_predicates.proofs.Vectors.{wide_back}
use mir.Syntax.{w128}
use Rattle.sign_predicates.proofs.vector.det_of_minors.Goals as goal

pub returns-clause-value : goal.returns-clause-value
returns-clause-value c =
    let a = c.args in
    let x = wide_back c.u.inside.z c.u.invariant.z_small ∙ ap (λ (p : Point). p.z) c.u.view_is in
    let y = wide_back c.v.inside.z c.v.invariant.z_small ∙ ap (λ (p : Point). p.z) c.v.view_is in
    let z = wide_back c.w.inside.z c.w.invariant.z_small ∙ ap (λ (p : Point). p.z) c.w.view_is in
    let i = back w64 (2 ^ 61) a.vw tt c.requires.vw_small in
    let j = back w64 (2 ^ 61) a.uw tt c.requires.uw_small in
    let k = back w64 (2 ^ 61) a.uv tt c.requires.uv_small in
    let d = det_along_third a.u a.v a.w in
    read w128 c.sum_of_three.result c.sum_of_three.type_inv ∙ cc

pub returns-clause-size : goal.returns-clause-size
returns-clause-size c =
    let x = ap unsigned_abs (wide_back c.u.inside.z c.u.invariant.z_small) in
    let y = ap unsigned_abs (wide_back c.v.inside.z c.v.invariant.z_small) in
    let z = ap unsigned_abs (wide_back c.w.inside.z c.w.invariant.z_small) in
    subst (λ (n : ℤ). unsigned_abs n ≤ 3 * 2 ^ 91) (sym (read w128 c.sum_of_three.result c.sum_of_three.type_inv)) (omega arith)
