use Rattle.exact_algebra.proofs.Size.{read}
use Rattle.sign_predicates.proofs.Parts.{same_sign, sign_is}
use Rattle.sign_predicates.proofs.Vectors.{in_sphere_is}
use Rattle.sign_predicates.specs.Vector.{sphere_sum}
use Rattle.std.proofs.Common.{◌∙◌}
use mir.Syntax.{w128}
use Rattle.sign_predicates.proofs.sphere.in_sphere.Goals as goal

pub returns : goal.returns
returns c =
    sign_is (read w128 c.sphere_sum.result c.sphere_sum.type_inv)
    (same_sign c.sphere_sum.ensures
    ((λ i. sphere_sum (c.from_to.ensures i) (c.from_to-2.ensures i) (c.from_to-3.ensures i) (c.from_to-4.ensures i)) ∙ in_sphere_is c.args.t c.args.e))
