use Rattle.tetfit_run.proofs.Openings.{holes_told, no_holes_told}
use Rattle.tetfit_run.proofs.opening.opening_in.Goals as goal

pub returns-then-has_holes : goal.returns-then-has_holes
returns-then-has_holes c =
    holes_told c.args.options.now c.args.bound c.has_holes.result c.carved_or.result c.has_holes.ensures c.if-has_holes.true c.carved_or.ensures

pub returns-else-has_holes : goal.returns-else-has_holes
returns-else-has_holes c =
    no_holes_told c.args.options.now c.args.bound c.has_holes.result c.in_ok-surface.surface c.has_holes.ensures c.if-has_holes.false c.in_ok-surface.ensures
