use Rattle.std.proofs.Common.{◌∙◌}
use Rattle.exact_algebra.proofs.Size.{read}
use Rattle.sign_predicates.specs.Weighted.{weighted_sum}
use Rattle.sign_predicates.proofs.WeightedTerms.{in_weighted_sphere_is, weight_back}
use Rattle.sign_predicates.proofs.Parts.{same_sign, sign_is}
use mir.Syntax.{w128}
use Rattle.sign_predicates.proofs.weighted.in_weighted_sphere.Goals as goal

pub returns : goal.returns
returns c =
    sign_is (read w128 c.weighted_sum.result c.weighted_sum.type_inv)
    (same_sign c.weighted_sum.ensures
    ((λ i. weighted_sum (c.from_to.ensures i) (c.from_to-2.ensures i) (c.from_to-3.ensures i) (c.from_to-4.ensures i) c.args.w (weight_back c.args.pw c.requires.weight i))
    ∙ in_weighted_sphere_is c.args.t c.args.w c.args.p c.args.pw))
