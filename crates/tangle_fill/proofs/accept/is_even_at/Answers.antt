use Rattle.std.proofs.Common.{sym, ◌∙◌}
use Rattle.tangle_laws.specs.Tangle.{lies_on}
use Rattle.tangle_laws.proofs.Apart.{fails_true}
use Rattle.tangle_fill.specs.Fill.{as_oriented}
use Rattle.tangle_fill.proofs.accept.is_even_at.Goals as goal

pub returns-then-lies_on : goal.returns-then-lies_on
returns-then-lies_on c h = (λ on. c.is_even_to.ensures h, λ off. absurd (fails_true (lies_on (as_oriented c.args.face) c.args.row) off (sym c.lies_on.ensures ∙ c.if-lies_on.true)))

pub returns-else-lies_on : goal.returns-else-lies_on
returns-else-lies_on c h = (λ on. absurd (fails_true (lies_on (as_oriented c.args.face) c.args.row) (sym c.lies_on.ensures ∙ c.if-lies_on.false) on), λ off. c.is_even_to-else-lies_on.ensures h)
