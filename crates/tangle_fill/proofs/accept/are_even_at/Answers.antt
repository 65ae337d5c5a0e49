use Rattle.tangle_fill.proofs.accept.are_even_at.Goals as goal

pub returns-then-is_even_at : goal.returns-then-is_even_at
returns-then-is_even_at c h = (c.is_even_at.ensures c.if-is_even_at.true, c.is_even_at-then-is_even_at.ensures h)
