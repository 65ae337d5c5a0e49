use Rattle.std.proofs.Common.{◌∙◌, subst, ℤ, pos, ◌<ℤ◌}
use Rattle.std.specs.Prelude.{IsTrue, ◌↔◌}
use Rattle.exact_algebra.proofs.Size.{read}
use mir.Syntax.{w128}
use Rattle.sign_predicates.proofs.entering.is_high.Goals as goal

pub returns : goal.returns
returns c =
    subst (λ (z : ℤ). IsTrue c.is_strictly_above.result ↔ (pos 0 <ℤ z)) (read w128 c.orient_sum.result c.orient_sum.type_inv ∙ c.orient_sum.ensures) c.is_strictly_above.ensures
