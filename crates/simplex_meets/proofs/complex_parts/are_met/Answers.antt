use Rattle.std.proofs.Common.{sym, ◌∙◌}
use Rattle.simplex_meets.proofs.Apart.{compared_met, not_compared}
use Rattle.simplex_meets.proofs.complex_parts.are_met.Goals as goal

pub returns-then-is_compared : goal.returns-then-is_compared
returns-then-is_compared c =
    let a = c.args in
    compared_met a.compared a.points.now a.p a.q c.are_properly_met.result (sym c.is_compared.ensures ∙ c.if-is_compared.true) c.are_properly_met.ensures

pub returns-else-is_compared : goal.returns-else-is_compared
returns-else-is_compared c =
    let a = c.args in
    not_compared a.compared a.points.now a.p a.q (sym c.is_compared.ensures ∙ c.if-is_compared.false)
