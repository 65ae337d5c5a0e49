use Rattle.std.proofs.Common.{◌++◌, ◌∙◌, ap, List, ℕ}
use Rattle.std.proofs.lemmas.List.{append_assoc}
use Rattle.std.specs.Prelude.{codes}
use Rattle.tetfit_run.specs.Hints.{half_unit}
use Rattle.tetfit_run.proofs.Appends.{behind}
use Rattle.tetfit_run.proofs.hints.append_moved.Goals as goal

pub returns : goal.returns
returns c =
    let front : List ℕ = codes "tetfit: rounding moved each coordinate by at most " in
    let half = half_unit c.args.decimals in
    behind c.append-2.result c.args.text.now c.append_half.new.text c.append-2.new.self (front ++ half) (codes "\n")
    (c.in_ok-append_half.ensures ∙ ap (λ (xs : List ℕ). xs ++ half) c.in_ok-append.ensures.ok ∙ append_assoc c.args.text.now front half) c.append-2.ensures.ok
