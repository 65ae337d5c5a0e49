use Rattle.std.proofs.Common.{[], ◌∷◌, ◌++◌, ap, ◌∙◌}
use Rattle.tangle_fill.proofs.Indexed.{four_put, indexed_more}
use Rattle.tangle_fill.proofs.growth.Growth.put.Goals as goal

pub returns-clause-indexed : goal.returns-clause-indexed
returns-clause-indexed c =
    indexed_more c.args.self.now (record { rows = c.push.new.self; sides = c.put_side-4.new.self.sides }) c.args.row c.requires
    (c.in_ok-push.ensures.ok ∙ ap (λ xs. xs ++ c.args.row ∷ []) (c.in_ok-put_side-4.ensures.rows ∙ c.in_ok-put_side-3.ensures.rows ∙ c.in_ok-put_side-2.ensures.rows ∙ c.in_ok-put_side.ensures.rows))
    (four_put c.args.self.now.sides c.put_side.new.self.sides c.put_side-2.new.self.sides c.put_side-3.new.self.sides c.put_side-4.new.self.sides c.args.row
    c.in_ok-put_side.ensures.put c.in_ok-put_side-2.ensures.put c.in_ok-put_side-3.ensures.put c.in_ok-put_side-4.ensures.put)
