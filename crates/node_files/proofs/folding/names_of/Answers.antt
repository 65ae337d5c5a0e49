use Rattle.std.proofs.Common.{[], ◌∷◌, ◌++◌, ◌+◌, sym, ap, ◌∙◌, append_assoc}
use Rattle.std.specs.List.{range_with_len}
use Rattle.node_files.proofs.Folds.{range_more}
use Rattle.node_files.proofs.folding.names_of.Goals as goal

pub loop-i-preserved : goal.loop-i-preserved
loop-i-preserved c =
    let names = c.args.table.now.names in
    let past = c.len-past.result in
    let i = c.loop-i.i in
    c.in_ok-push.ensures.ok ∙ ap (λ ns. ns ++ (past + i) ∷ []) c.loop-i.invariant ∙ append_assoc names (range_with_len past i) ((past + i) ∷ []) ∙ ap (λ ns. names ++ ns) (sym (range_more past i))
