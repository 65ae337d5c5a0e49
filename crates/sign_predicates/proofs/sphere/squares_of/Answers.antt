use Rattle.std.proofs.Common.{◌∙◌, w64}
use Rattle.exact_algebra.proofs.Size.{read}
use Rattle.sign_predicates.proofs.sphere.squares_of.Goals as goal

pub returns-clause-value : goal.returns-clause-value
returns-clause-value c =
    let p = read w64 c.square_length.result c.square_length.type_inv ∙ c.square_length.ensures.value in
    let q = read w64 c.square_length-2.result c.square_length-2.type_inv ∙ c.square_length-2.ensures.value in
    let r = read w64 c.square_length-3.result c.square_length-3.type_inv ∙ c.square_length-3.ensures.value in
    let s = read w64 c.square_length-4.result c.square_length-4.type_inv ∙ c.square_length-4.ensures.value in
    λ i. record { a = p i; b = q i; c = r i; d = s i }
