use Rattle.std.proofs.Common.{◌≡◌, ◌∙◌, Option, sym, ap, subst}
use Rattle.std.specs.Prelude.{IfSome}
use Rattle.command_words.specs.declared.options.Options.{Options}
use Rattle.grid_coords.specs.Origins.{IsNear}
use Rattle.grid_coords.specs.declared.origin.WholePoint.{WholePoint}
use Rattle.tetfit_run.specs.Measured.{most_tried, with_origin}
use Rattle.tetfit_run.specs.Trying.{AreTriable}
use Rattle.tetfit_run.proofs.Measured.{triable}
use Rattle.tetfit_run.proofs.outputs.wanted_from.Goals as goal

pub returns-clause-ranges : goal.returns-clause-ranges
returns-clause-ranges c =
    let input = c.args.model.now.input in
    let options = c.args.wanted.now.options in
    let near = subst (λ (o : Option WholePoint). IfSome o (IsNear (most_tried input))) c.requires.origin c.requires.near in
    let made : c.in_ok-with_origin.field-0 ≡ with_origin input options = c.in_ok-with_origin.ensures ∙ ap (λ (o : Option WholePoint). record options { origin = o }) c.requires.origin in
    subst (λ (o : Options). AreTriable o input) (sym made) (triable options input c.requires.ranges near)
