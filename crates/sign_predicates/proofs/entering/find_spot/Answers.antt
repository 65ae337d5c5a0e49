use Rattle.std.proofs.Common.{◌∙◌, subst, ℤ, pos, ◌<ℤ◌}
use Rattle.std.specs.Prelude.{IsTrue, ◌↔◌}
use Rattle.exact_algebra.proofs.Size.{read}
use mir.Syntax.{w128}
use Rattle.sign_predicates.proofs.entering.find_spot.Goals as goal

pub returns-clause-spot : goal.returns-clause-spot
returns-clause-spot c =
    subst (λ (z : ℤ). IsTrue c.is_strictly_above.result ↔ (pos 0 <ℤ z)) (read w128 c.args.side c.ranges.side.sfits ∙ c.requires) c.is_strictly_above.ensures
