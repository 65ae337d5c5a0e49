use Rattle.std.proofs.Common.{◌∙◌, ◌+ℤ◌, ◌-ℤ◌, w64}
use Rattle.exact_algebra.proofs.Size.{read}
use Rattle.sign_predicates.specs.Sphere.{square_length, lifted_sum}
use Rattle.sign_predicates.proofs.WeightedTerms.{weighted_sum_is, weight_back}
use Rattle.sign_predicates.proofs.Parts.{same_sign, sign_is}
use mir.Syntax.{w128}
use Rattle.sign_predicates.proofs.weighted.weighted_sum.Goals as goal

pub returns : goal.returns
returns c =
    let own = weight_back c.args.own c.requires.weight in
    let p = read w64 c.rise.result c.rise.type_inv ∙ c.rise.ensures.value
    ∙ (λ i. square_length c.args.a -ℤ weight_back c.args.w.a c.requires.weights.a_small i +ℤ own i) in
    let q = read w64 c.rise-2.result c.rise-2.type_inv ∙ c.rise-2.ensures.value
    ∙ (λ i. square_length c.args.b -ℤ weight_back c.args.w.b c.requires.weights.b_small i +ℤ own i) in
    let r = read w64 c.rise-3.result c.rise-3.type_inv ∙ c.rise-3.ensures.value
    ∙ (λ i. square_length c.args.c -ℤ weight_back c.args.w.c c.requires.weights.c_small i +ℤ own i) in
    let s = read w64 c.rise-4.result c.rise-4.type_inv ∙ c.rise-4.ensures.value
    ∙ (λ i. square_length c.args.d -ℤ weight_back c.args.w.d c.requires.weights.d_small i +ℤ own i) in
    sign_is (read w128 c.sum_of_four.result c.sum_of_four.type_inv)
    (same_sign c.sum_of_four.ensures
    ((λ i. lifted_sum (record { a = p i; b = q i; c = r i; d = s i }) (c.wide_volumes.ensures.value i))
    ∙ weighted_sum_is c.args.a c.args.b c.args.c c.args.d c.args.w c.args.own))
