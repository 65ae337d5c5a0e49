use Rattle.std.proofs.Common.{◌∙◌, subst, ℤ}
use Rattle.exact_algebra.proofs.Size.{read}
use Rattle.sign_predicates.specs.Sign.{IsSignOf}
use mir.Syntax.{w128}
use Rattle.sign_predicates.proofs.centroid.orient_centroid.Goals as goal

pub returns : goal.returns
returns c = subst (λ (z : ℤ). IsSignOf c.sign_of.result z) (read w128 c.orient_centroid_sum.result c.orient_centroid_sum.type_inv ∙ c.orient_centroid_sum.ensures) c.sign_of.ensures
