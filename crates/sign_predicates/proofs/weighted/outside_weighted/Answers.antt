use Rattle.std.proofs.Common.{pos, ◌≡◌, ◌≢◌, refl, ap, ◌∙◌}
use Rattle.exact_algebra.proofs.Size.{read}
use Rattle.sign_predicates.specs.Sphere.{wins_tie}
use Rattle.sign_predicates.proofs.Holds.{tests_zero, tests_not_zero}
use Rattle.sign_predicates.specs.Weighted.{in_weighted_sphere}
use Rattle.sign_predicates.proofs.WeightedTerms.{weight_back}
use Rattle.sign_predicates.proofs.Parts.{same_sign, sign_is, zero_of_one_sign, not_zero_of_one_sign}
use mir.Syntax.{w128}
use Rattle.sign_predicates.proofs.weighted.outside_weighted.Goals as goal

pub returns-then-vanishes : goal.returns-then-vanishes
returns-then-vanishes c =
    let a = c.args in
    let is = sign_is (read w128 c.in_weighted_sphere-sum.result c.in_weighted_sphere-sum.type_inv)
    (same_sign c.in_weighted_sphere-sum.ensures (ap (in_weighted_sphere a.t a.w a.p) (weight_back a.pw c.requires.weight))) in
    let h : in_weighted_sphere a.t a.w a.p a.pw ≡ pos 0 = zero_of_one_sign _ _ is (c.if-vanishes.ensures.0 refl) in
    c.wins_tie.ensures ∙ tests_zero (in_weighted_sphere a.t a.w a.p a.pw) (wins_tie a.t a.n a.p a.m) h

pub returns : goal.returns
returns c =
    let a = c.args in
    let is = sign_is (read w128 c.in_weighted_sphere-sum.result c.in_weighted_sphere-sum.type_inv)
    (same_sign c.in_weighted_sphere-sum.ensures (ap (in_weighted_sphere a.t a.w a.p) (weight_back a.pw c.requires.weight))) in
    let h : in_weighted_sphere a.t a.w a.p a.pw ≢ pos 0 = not_zero_of_one_sign _ _ is (λ e. let f = c.if-vanishes.ensures.1 e in cc) in
    c.is_below.ensures ∙ is.below ∙ tests_not_zero (in_weighted_sphere a.t a.w a.p a.pw) (wins_tie a.t a.n a.p a.m) h
