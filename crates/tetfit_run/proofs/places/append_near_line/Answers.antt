use Rattle.std.proofs.Common.{◌++◌, ◌∙◌, ap, List, ℕ, None}
use Rattle.std.proofs.lemmas.List.{append_assoc}
use Rattle.std.specs.Prelude.{codes}
use Rattle.tetfit_run.specs.Hints.{away_text, corner_text}
use Rattle.tetfit_run.proofs.Appends.{behind}
use Rattle.tetfit_run.proofs.places.append_near_line.Goals as goal

pub returns : goal.returns
returns c =
    let front : List ℕ = codes "tetfit: nearest to it is point" in
    let corner = corner_text c.args.points.now c.args.by.now None c.args.near.point in
    behind c.append_away.result c.args.text.now c.append_corner.new.text c.append_away.new.text (front ++ corner) (away_text c.args.decimals c.args.near.units)
    (c.in_ok-append_corner.ensures ∙ ap (λ (xs : List ℕ). xs ++ corner) c.in_ok-append.ensures.ok ∙ append_assoc c.args.text.now front corner) c.append_away.ensures
