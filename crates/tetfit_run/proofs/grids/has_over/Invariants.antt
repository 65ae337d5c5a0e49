use Rattle.std.proofs.Common.{◌≡◌, drop}
use Rattle.std.specs.List.{list_any}
use Rattle.grid_coords.specs.Choice.{is_over}
use Rattle.tetfit_run.specs.Grids.{point_at}
use Rattle.tetfit_run.proofs.grids.has_over.Given as goal

abbrev pub invariant-loop-p : goal.invariant-loop-p
invariant-loop-p l =
    list_any (λ p. is_over l.wide l.finest (point_at l.origin l.decimals p)) (drop l.p-index l.points) ≡ list_any (λ p. is_over l.wide l.finest (point_at l.origin l.decimals p)) l.points
