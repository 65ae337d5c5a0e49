use Rattle.std.proofs.Common.{◌∙◌, ◌≤◌, ◌*◌, ◌^◌, ◌-ℤ◌, [], ◌∷◌, w64, ℤ, unsigned_abs, subst, sym, arith}
use Rattle.std.proofs.lemmas.Int.{ints}
use Rattle.exact_algebra.proofs.Size.{raw_fits}
use Rattle.sign_predicates.specs.Lifted.{lift_rise}
use Rattle.sign_predicates.proofs.Lifting.{height_small, height_bounds, height_difference, rise_back}
use Rattle.sign_predicates.proofs.lifted.rise.Goals as goal

pub overflow_sub-result : goal.overflow_sub-result
overflow_sub-result c =
    let a = c.a.inside in
    let b = c.b.inside in
    let h = height_small (record { x = a.x; y = a.y; z = a.z }) a.height c.a.invariant in
    let k = height_small (record { x = b.x; y = b.y; z = b.z }) b.height c.b.invariant in
    raw_fits w64 height_bounds (a.height ∷ b.height ∷ []) height_difference (h, (k, tt)) tt

pub returns-clause-value : goal.returns-clause-value
returns-clause-value c =
    let a = c.a.inside in
    let b = c.b.inside in
    let h = height_small (record { x = a.x; y = a.y; z = a.z }) a.height c.a.invariant in
    let k = height_small (record { x = b.x; y = b.y; z = b.z }) b.height c.b.invariant in
    rise_back a.height b.height h k
    ∙ (λ t. sym c.b.invariant.height_is t -ℤ sym c.a.invariant.height_is t)
    ∙ (λ t. lift_rise (c.a.view_is t) (c.b.view_is t))

pub returns-clause-size : goal.returns-clause-size
returns-clause-size c =
    let a = c.a.inside in
    let b = c.b.inside in
    let h = height_small (record { x = a.x; y = a.y; z = a.z }) a.height c.a.invariant in
    let k = height_small (record { x = b.x; y = b.y; z = b.z }) b.height c.b.invariant in
    subst (λ (z : ℤ). unsigned_abs z ≤ 3 * 2 ^ 60) (sym (rise_back a.height b.height h k)) (omega (arith, ints))
