use Rattle.std.proofs.Common.{◌++◌, ◌∙◌, ap, List, ℕ}
use Rattle.std.proofs.lemmas.List.{append_assoc}
use Rattle.std.specs.Prelude.{codes}
use Rattle.tetfit_run.specs.Hints.{unit_text}
use Rattle.tetfit_run.proofs.Appends.{behind}
use Rattle.tetfit_run.proofs.unit_texts.append_multiples.Goals as goal

pub returns : goal.returns
returns c =
    let front : List ℕ = codes "tetfit: coordinates were rounded to multiples of " in
    let unit = unit_text c.args.unit in
    behind c.append-2.result c.args.text.now c.append_unit.new.text c.append-2.new.self (front ++ unit) (codes "\n")
    (c.in_ok-append_unit.ensures ∙ ap (λ (xs : List ℕ). xs ++ unit) c.in_ok-append.ensures.ok ∙ append_assoc c.args.text.now front unit) c.append-2.ensures.ok
