use Rattle.std.proofs.Common.{◌∙◌, sym}
use Rattle.sign_predicates.specs.Point.{origin}
use Rattle.tetfit_run.specs.Sides.{boxes_share}
use Rattle.tetfit_run.proofs.sides.sides_share.Goals as goal

pub returns : goal.returns
returns c =
    c.boxes_share.ensures
    ∙ (λ j. boxes_share (sym (c.at.ensures origin) j) (sym (c.at-2.ensures origin) j) (sym (c.at-3.ensures origin) j) (sym (c.at-4.ensures origin) j))
