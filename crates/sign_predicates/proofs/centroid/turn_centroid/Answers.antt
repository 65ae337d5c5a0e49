use Rattle.std.proofs.Common.{◌∙◌, subst, ℤ}
use Rattle.exact_algebra.proofs.Size.{read}
use Rattle.sign_predicates.specs.Orientation.{cross}
use Rattle.sign_predicates.specs.Centroid.{centroid, turn_rational}
use Rattle.sign_predicates.specs.Sign.{IsSignOf}
use mir.Syntax.{w128}
use Rattle.sign_predicates.proofs.centroid.turn_centroid.Goals as goal

pub returns : goal.returns
returns c =
    subst (λ (z : ℤ). IsSignOf c.sign_of.result z)
    (read w128 c.turn_centroid_sum.result c.turn_centroid_sum.type_inv ∙ c.turn_centroid_sum.ensures
    ∙ (λ t. turn_rational ((c.cross.ensures ∙ (λ u. cross (c.from_to.ensures u) (c.from_to-2.ensures u))) t) c.args.q c.args.r (centroid c.args.t.now)))
    c.sign_of.ensures
