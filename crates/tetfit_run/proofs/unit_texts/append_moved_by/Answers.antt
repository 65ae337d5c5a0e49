use Rattle.std.proofs.Common.{◌++◌, ◌∙◌, ap, List, ℕ}
use Rattle.std.proofs.lemmas.List.{append_assoc}
use Rattle.std.specs.Prelude.{codes}
use Rattle.tetfit_run.specs.Hints.{half_of, unit_text}
use Rattle.tetfit_run.proofs.unit_texts.append_moved_by.Goals as goal
use Rattle.tetfit_run.proofs.Appends.{behind, five}

pub returns : goal.returns
returns c =
    five c.append-3.result c.args.text.now c.append_half_of.new.text c.append-3.new.self
    (codes "tetfit: rounding to multiples of ") (unit_text c.args.unit) (codes " moved each coordinate by at most ") (half_of c.args.unit) (codes "\n")
    (c.in_ok-append_half_of.ensures ∙ ap (λ (xs : List ℕ). xs ++ half_of c.args.unit) (c.in_ok-append-2.ensures.ok
    ∙ ap (λ (xs : List ℕ). xs ++ codes " moved each coordinate by at most ") (c.in_ok-append_unit.ensures
    ∙ ap (λ (xs : List ℕ). xs ++ unit_text c.args.unit) c.in_ok-append.ensures.ok))) c.append-3.ensures.ok
