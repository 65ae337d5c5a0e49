use Rattle.std.proofs.Common.{◌≡◌, ◌*ℤ◌, ap, ◌∙◌, arith, to_z, of_z}
use Rattle.std.specs.Int.{w64, w128}
use Rattle.std.proofs.lemmas.Int.{ints}
use Rattle.sign_predicates.specs.Sphere.{square_length}
use Rattle.tet_shapes.proofs.nearest.end_gap.Goals as goal

pub returns : goal.returns
returns c =
    let back : to_z w128 (of_z w128 c.product.result) ≡ c.product.result = omega (arith, ints) in
    let whole-back : to_z w64 (of_z w64 c.square_length-whole.result) ≡ c.square_length-whole.result = omega (arith, ints) in
    let own-back : to_z w64 (of_z w64 c.square_length-own.result) ≡ c.square_length-own.result = omega (arith, ints) in
    let whole = whole-back ∙ c.square_length-whole.ensures.value ∙ ap square_length c.from_to.ensures in
    let own = own-back ∙ c.square_length-own.ensures.value ∙ ap square_length c.from_to-2.ensures in
    back ∙ c.product.ensures ∙ (λ t. whole t *ℤ own t)
