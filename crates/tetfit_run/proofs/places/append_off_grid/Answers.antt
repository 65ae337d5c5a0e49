use Rattle.tetfit_run.specs.Hints.{help_of_grid, point_lines}
use Rattle.tetfit_run.proofs.Appends.{behind}
use Rattle.std.proofs.Common.{◌≡◌, ◌++◌, List, ℕ, subst}
use Rattle.std.specs.Prelude.{OnOk}
use Rattle.tetfit_run.proofs.places.append_off_grid.Goals as goal

pub returns : goal.returns
returns c =
    let help = help_of_grid c.args.decimals in
    let before = c.append_lines.new.text in
    let after = c.append.new.self in
    behind c.append.result c.args.text.now before after (point_lines c.args.stated c.args.p.now) help c.in_ok-append_lines.ensures
    (subst (λ (line : List ℕ). OnOk c.append.result (after ≡ before ++ line)) c.help_of_grid.ensures c.append.ensures.ok)
