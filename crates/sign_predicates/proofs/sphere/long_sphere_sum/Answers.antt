use Rattle.std.proofs.Common.{◌∙◌}
use Rattle.exact_algebra.proofs.Size.{read}
use Rattle.sign_predicates.specs.Sphere.{lifted_sum}
use Rattle.sign_predicates.proofs.Vectors.{sphere_sum_is}
use Rattle.sign_predicates.proofs.Parts.{same_sign, sign_is}
use mir.Syntax.{w128}
use Rattle.sign_predicates.proofs.sphere.long_sphere_sum.Goals as goal

pub returns : goal.returns
returns c =
    sign_is (read w128 c.sum_of_four.result c.sum_of_four.type_inv)
    (same_sign c.sum_of_four.ensures
    ((λ i. lifted_sum (c.squares_of-s.ensures.value i) (c.wide_volumes.ensures.value i))
    ∙ sphere_sum_is c.args.a c.args.b c.args.c c.args.d))
