use Rattle.std.proofs.Common.{◌∙◌, w64, arith}
use Rattle.exact_algebra.proofs.Size.{read}
use Rattle.sign_predicates.specs.Weighted.{is_outside_weighted}
use Rattle.weighted_mesh.proofs.sites.is_outside.Goals as goal

pub weights_of-requires-clause-inside : goal.weights_of-requires-clause-inside
weights_of-requires-clause-inside c =
    let on = c.requires.on in
    let each = c.requires.weights.each in
    (omega (arith, on 0 (omega arith), each), omega (arith, on 1 (omega arith), each), omega (arith, on 2 (omega arith), each), omega (arith, on 3 (omega arith), each))

pub returns : goal.returns
returns c =
    let own = read w64 c.weight_at.result c.weight_at.type_inv ∙ c.weight_at.ensures.value in
    c.outside_weighted.ensures
    ∙ (λ i. is_outside_weighted (c.row_points.ensures i) (c.weights_of.ensures.value i) (c.numbers_of.ensures i) (c.point_at.ensures i) (own i) c.args.p)
