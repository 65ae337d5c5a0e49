use Rattle.std.proofs.Common.{pos, ◌≡◌, ◌≢◌, refl, ◌∙◌}
use Rattle.exact_algebra.proofs.Size.{read}
use Rattle.sign_predicates.specs.Sphere.{in_sphere, wins_tie}
use Rattle.sign_predicates.proofs.Holds.{tests_zero, tests_not_zero}
use Rattle.sign_predicates.proofs.Parts.{sign_is, zero_of_one_sign, not_zero_of_one_sign}
use mir.Syntax.{w128}
use Rattle.sign_predicates.proofs.sphere.outside.Goals as goal

pub returns-then-vanishes : goal.returns-then-vanishes
returns-then-vanishes c =
    let a = c.args in
    let is = sign_is (read w128 c.in_sphere-sum.result c.in_sphere-sum.type_inv) c.in_sphere-sum.ensures in
    let h : in_sphere a.t a.p ≡ pos 0 = zero_of_one_sign _ _ is (c.if-vanishes.ensures.0 refl) in
    c.wins_tie_at.ensures ∙ tests_zero (in_sphere a.t a.p) (wins_tie a.t a.n a.p a.m) h

pub returns : goal.returns
returns c =
    let a = c.args in
    let is = sign_is (read w128 c.in_sphere-sum.result c.in_sphere-sum.type_inv) c.in_sphere-sum.ensures in
    let h : in_sphere a.t a.p ≢ pos 0 = not_zero_of_one_sign _ _ is (λ e. let f = c.if-vanishes.ensures.1 e in cc) in
    c.is_below.ensures ∙ is.below ∙ tests_not_zero (in_sphere a.t a.p) (wins_tie a.t a.n a.p a.m) h
