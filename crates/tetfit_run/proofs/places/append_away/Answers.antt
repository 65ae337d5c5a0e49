use Rattle.std.proofs.Common.{◌++◌, ◌∙◌, ap, List, ℕ}
use Rattle.std.proofs.lemmas.List.{append_assoc}
use Rattle.std.specs.Prelude.{codes}
use Rattle.tetfit_run.specs.Hints.{away_text, units_text}
use Rattle.tetfit_run.proofs.Appends.{behind}
use Rattle.tetfit_run.proofs.places.append_away.Goals as goal

pub returns : goal.returns
unfolding away_text
returns c =
    let front : List ℕ = codes ", on the grid at most " in
    let units = units_text c.args.decimals c.args.units in
    behind c.append-2.result c.args.text.now c.append_units.new.text c.append-2.new.self (front ++ units) (codes " away\n")
    (c.in_ok-append_units.ensures ∙ ap (λ (xs : List ℕ). xs ++ units) c.in_ok-append.ensures.ok ∙ append_assoc c.args.text.now front units) c.append-2.ensures.ok
