use Rattle.std.proofs.Common.{[], ◌∷◌, ◌++◌, ap, ◌∙◌}
use Rattle.tangle_fill.proofs.Arranged.{sides_free, lies_apart}
use Rattle.tangle_fill.proofs.Indexed.{four_put, indexed_more}
use Rattle.tangle_fill.proofs.growth.Growth.put_apart.Goals as goal

pub returns-clause-indexed : goal.returns-clause-indexed
returns-clause-indexed c =
    indexed_more c.args.self.now (record { rows = c.push.new.self; sides = c.put_side-4.new.self.sides }) c.args.row c.requires.indexed
    (c.in_ok-push.ensures.ok ∙ ap (λ xs. xs ++ c.args.row ∷ []) (c.in_ok-at_d.ensures.rows ∙ c.in_ok-at_c.ensures.rows ∙ c.in_ok-at_b.ensures.rows ∙ c.in_ok-at_a.ensures.rows))
    (four_put c.args.self.now.sides c.put_side.new.self.sides c.put_side-2.new.self.sides c.put_side-3.new.self.sides c.put_side-4.new.self.sides c.args.row
    c.in_ok-at_a.ensures.put c.in_ok-at_b.ensures.put c.in_ok-at_c.ensures.put c.in_ok-at_d.ensures.put)

pub returns-clause-apart : goal.returns-clause-apart
returns-clause-apart c h =
    let all = c.all_four.ensures.0 h in
    lies_apart c.args.self.now c.args.row c.requires.indexed c.requires.arranged c.requires.row
    (sides_free c.args.self.now.sides c.put_side.new.self.sides c.put_side-2.new.self.sides c.put_side-3.new.self.sides c.args.row
    c.in_ok-at_a.ensures.put c.in_ok-at_b.ensures.put c.in_ok-at_c.ensures.put
    (c.in_ok-at_a.ensures.free all.0) (c.in_ok-at_b.ensures.free all.1) (c.in_ok-at_c.ensures.free all.2) (c.in_ok-at_d.ensures.free all.3))
