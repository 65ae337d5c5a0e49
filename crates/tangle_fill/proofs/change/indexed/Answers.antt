use Rattle.std.proofs.Common.{◌<◌, ◌≤◌, [], ◌∷◌, ◌++◌, length, ap, sym, ◌∙◌, arith}
use Rattle.std.specs.Prelude.{take}
use Rattle.std.proofs.lemmas.List.{take_more, take_all}
use Rattle.tangle_fill.proofs.change.indexed.Goals as goal

pub loop-i-preserved : goal.loop-i-preserved
loop-i-preserved c =
    let row = c.at.result in
    let l : c.loop-i.i < length c.args.rows.now = omega arith in
    (c.in_ok-put.ensures.rows ∙ ap (λ xs. xs ++ row ∷ []) c.loop-i.invariant.0 ∙ sym (take_more c.args.rows.now c.loop-i.i row l ∙ ap (λ x. take c.loop-i.i c.args.rows.now ++ x ∷ []) (c.at.ensures row)), c.in_ok-put.ensures.indexed)

pub returns-clause-rows : goal.returns-clause-rows
returns-clause-rows c =
    let all : length c.args.rows.now ≤ c.loop-i.i = omega arith in
    c.loop-i.invariant.0 ∙ take_all c.loop-i.i c.args.rows.now all
