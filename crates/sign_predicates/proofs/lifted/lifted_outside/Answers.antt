use Rattle.std.proofs.Common.{ℤ, pos, ◌≡◌, ◌≢◌, refl, subst, ap, ◌∙◌, inl, inr}
use Rattle.std.specs.Prelude.{int_lt}
use Rattle.exact_algebra.proofs.Size.{read}
use Rattle.sign_predicates.specs.Sphere.{in_sphere, wins_tie}
use Rattle.sign_predicates.specs.declared.tetrahedron.Corners.{Corners}
use Rattle.sign_predicates.specs.declared.tetrahedron.Sign.TheVariants.{Below, Zero, Above}
use Rattle.sign_predicates.proofs.Holds.{below_or_above, tests_below, tests_zero, tests_above}
use Rattle.sign_predicates.proofs.Lifting.{sphere_sign, sides_in_frame}
use mir.Syntax.{w128}
use Rattle.sign_predicates.proofs.lifted.lifted_outside.Goals as goal

pub returns-then-vanishes : goal.returns-then-vanishes
returns-then-vanishes c = λ f t e some corners point.
    let a = c.args in
    let q : Corners = record { a = a.t.a; b = a.t.b; c = a.t.c; d = a.t.d } in
    let is = read w128 c.in_sphere-sum.result c.in_sphere-sum.type_inv ∙ c.in_sphere-sum.ensures in
    let h : in_sphere q a.p ≡ pos 0 = subst (λ (z : ℤ). z ≡ pos 0) is (c.if-vanishes.ensures.0 refl) in
    c.wins_by_volumes.ensures t e (sides_in_frame f q t a.p e some corners point c.volumes_of-v.result c.volumes_of-v.ensures.value)
    ∙ tests_zero (in_sphere t e) (wins_tie t a.n e a.m) (sphere_sign Zero q a.p h f t e some corners point)

pub returns : goal.returns
returns c = λ f t e some corners point.
    let a = c.args in
    let q : Corners = record { a = a.t.a; b = a.t.b; c = a.t.c; d = a.t.d } in
    let is = read w128 c.in_sphere-sum.result c.in_sphere-sum.type_inv ∙ c.in_sphere-sum.ensures in
    let h : in_sphere q a.p ≢ pos 0 = subst (λ (z : ℤ). z ≢ pos 0) is (λ e. let f = c.if-vanishes.ensures.1 e in cc) in
    let told = c.is_below.ensures ∙ ap (λ (z : ℤ). int_lt z (pos 0)) is in
    elim (below_or_above (in_sphere q a.p) h) [
      | inl low ↦ told ∙ low.1 ∙ tests_below (in_sphere t e) (wins_tie t a.n e a.m) (sphere_sign Below q a.p low.0 f t e some corners point)
      | inr high ↦ told ∙ high.1 ∙ tests_above (in_sphere t e) (wins_tie t a.n e a.m) (sphere_sign Above q a.p high.0 f t e some corners point)
    ]
