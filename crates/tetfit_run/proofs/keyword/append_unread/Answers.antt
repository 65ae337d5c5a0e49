use Rattle.std.proofs.Common.{◌++◌, ◌∙◌, ap, List, ℕ}
use Rattle.std.proofs.lemmas.List.{append_assoc}
use Rattle.std.specs.Prelude.{codes}
use Rattle.tetfit_run.specs.Keyword.{unread_front}
use Rattle.tetfit_run.proofs.Appends.{behind}
use Rattle.tetfit_run.proofs.keyword.append_unread.Goals as goal

pub returns : goal.returns
returns c =
    let text = c.args.text.now in
    let front = unread_front c.args.name.now c.args.line in
    let word = c.args.word.now in
    behind c.append-2.result text c.append.new.self c.append-2.new.self (front ++ word) (codes " is not read: OFF, COFF, NOFF, CNOFF, STOFF, STCOFF, STNOFF and STCNOFF are\n")
    (c.in_ok-append.ensures.ok ∙ ap (λ (xs : List ℕ). xs ++ word) c.in_ok-append_front.ensures ∙ append_assoc text front word) c.append-2.ensures.ok
