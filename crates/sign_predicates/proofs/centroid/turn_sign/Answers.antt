use Rattle.std.proofs.Common.{◌∙◌, subst, ℤ}
use Rattle.exact_algebra.proofs.Size.{read}
use Rattle.sign_predicates.specs.Orientation.{cross}
use Rattle.sign_predicates.specs.Turns.{turn}
use Rattle.sign_predicates.specs.Sign.{IsSignOf}
use mir.Syntax.{w128}
use Rattle.sign_predicates.proofs.centroid.turn_sign.Goals as goal

pub returns : goal.returns
returns c =
    subst (λ (z : ℤ). IsSignOf c.sign_of.result z)
    (read w128 c.turn.result c.turn.type_inv ∙ c.turn.ensures
    ∙ (λ t. turn ((c.cross.ensures ∙ (λ u. cross (c.from_to.ensures u) (c.from_to-2.ensures u))) t) c.args.q c.args.r c.args.p))
    c.sign_of.ensures
