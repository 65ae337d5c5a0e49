use Rattle.std.proofs.Common.{sym, ap, ◌∙◌, arith, refl}
use Rattle.std.proofs.lemmas.Result.{err_from_is_err_and}
use Rattle.grid_coords.specs.Choice.{most_decimals, grid_of}
use Rattle.grid_coords.proofs.Sizes.{over_same, none_over, halvings_le, halvings_fit, fits_limit, points_on}
use Rattle.grid_coords.proofs.choice.choose_grid.Goals as goal

pub returns-in_err-size-clause-value : goal.returns-in_err-size-clause-value
unfolding grid_of
returns-in_err-size-clause-value c =
    let p = err_from_is_err_and c.from_residual.result c.from_residual.ensures.1 in
    let points = c.as_slice.ensures in
    let points-2 = c.as_slice-2.ensures in
    let decimals = c.most_decimals-decimals.ensures in
    let found = rw (points-2, decimals, points) at c.in_err-size.ensures.value in
    rw (p.1, p.2) (sym (over_same _ _ _ _ (sym found)))

pub returns-clause-value : goal.returns-clause-value
unfolding grid_of
returns-clause-value c =
    let points = c.as_slice.ensures in
    let points-2 = c.as_slice-2.ensures in
    let decimals = c.most_decimals-decimals.ensures in
    let found = rw (points-2, decimals, points) at c.in_ok-size.ensures.value in
    let none = none_over _ _ _ (sym found) in
    rw (c.halvings_for-halvings.ensures, c.min.ensures, decimals, points, none.0, none.1) refl

pub returns-clause-on_grid : goal.returns-clause-on_grid
returns-clause-on_grid c =
    let found = rw c.as_slice-2.ensures at c.in_ok-size.ensures.value in
    let none = none_over _ _ _ (sym found) in
    points_on c.args.points.now c.most_decimals-decimals.result c.halvings_for-halvings.result c.in_ok-size.size
    (c.most_decimals-decimals.ensures ∙ ap most_decimals c.as_slice.ensures) none.1
    (rw c.halvings_for-halvings.ensures (fits_limit _ c.args.wide (halvings_fit c.args.wide c.min.result c.in_ok-size.size c.in_ok-size.ensures.small) c.requires))

pub returns-clause-halvings : goal.returns-clause-halvings
returns-clause-halvings c = omega (arith, c.halvings_for-halvings.ensures, halvings_le c.args.wide c.min.result c.in_ok-size.size)
