use Rattle.std.proofs.Common.{◌≡◌, ◌++◌, ◌∙◌, true, List, ℕ, refl, ap, subst}
use Rattle.std.specs.Prelude.{◌↔◌}
use Rattle.grid_coords.specs.declared.points.DecimalPoint.{DecimalPoint}
use Rattle.tetfit_run.specs.Apart.{crossing_help, AreApart}
use Rattle.tetfit_run.specs.Trial.{TrialValue}
use Rattle.tetfit_run.proofs.hints.segments_hint.Goals as goal

pub returns : goal.returns
returns c =
    let apart = c.in_ok-apart.apart in
    let help = crossing_help apart in
    let points : c.as_slice-points.result.now ≡ c.args.trial.now.input.nodes.decimals =
    c.as_slice-points.ensures ∙ ap (λ (t : TrialValue). t.input.nodes.decimals) c.trial.view_is in (
      help,
      record { apart = apart; is = subst (λ (points : List DecimalPoint). (apart ≡ true) ↔ AreApart points c.args.by.now c.args.one c.args.two) points c.in_ok-apart.ensures; told = refl },
      c.in_ok-append.ensures.ok ∙ ap (λ line. c.in_ok-text.text ++ line) c.crossing_help.ensures ∙ ap (λ (xs : List ℕ). xs ++ help) c.in_ok-text.ensures,
    )
