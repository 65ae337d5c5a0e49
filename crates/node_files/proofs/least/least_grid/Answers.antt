use Rattle.std.proofs.Common.{sym, ap, ◌∙◌, refl}
use Rattle.node_files.specs.LeastGrid.{coarsest, first_over_units, least_grid_of}
use Rattle.node_files.proofs.Greatest.{line_some, line_none, points_on}
use Rattle.node_files.proofs.least.least_grid.Goals as goal

pub returns-in-Some-clause-value : goal.returns-in-Some-clause-value
unfolding least_grid_of
returns-in-Some-clause-value c =
    let ps = c.args.points.now in
    let grid = c.coarsest-grid.ensures ∙ ap coarsest c.as_slice.ensures in
    let found = rw (grid, c.as_slice-2.ensures) at (sym c.line_over.ensures ∙ c.in-Some.is) in
    sym (line_some (first_over_units c.args.wide (coarsest ps) ps) (coarsest ps) c.in-Some.line found)

pub returns-in-None-clause-value : goal.returns-in-None-clause-value
unfolding least_grid_of
returns-in-None-clause-value c =
    let ps = c.args.points.now in
    let grid = c.coarsest-grid.ensures ∙ ap coarsest c.as_slice.ensures in
    let none = line_none _ (rw (grid, c.as_slice-2.ensures) at (sym c.line_over.ensures ∙ c.in-None.is)) in
    rw (grid, none) refl

pub returns-in-None-clause-on_grid : goal.returns-in-None-clause-on_grid
returns-in-None-clause-on_grid c =
    let ps = c.args.points.now in
    let grid = c.coarsest-grid.ensures ∙ ap coarsest c.as_slice.ensures in
    let none = line_none _ (rw (grid, c.as_slice-2.ensures) at (sym c.line_over.ensures ∙ c.in-None.is)) in
    rw grid (points_on c.args.wide ps c.requires none)
